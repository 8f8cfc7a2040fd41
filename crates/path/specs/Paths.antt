-- The ownship's sensed heights (document 01, "Paths and conflict"; document 02, "Two-sided with a slow pilot"), from the level that moves with the intruder
-- (`Letters`). A time t is n/m seconds. Since "each comparison at it is multiplied through by its divisors", a height f at n/m stands as 2 × a × m² × f on the
-- lower side, 2 × b × m² × j on the upper, which is whole.
use Rattle.std.specs.Prelude.{cond, ℕ, ◌*◌, ◌-◌, leb, ltb, ℤ, pos, neg_ℤ, ◌+ℤ◌, ◌-ℤ◌, ◌*ℤ◌}
use Rattle.integers.specs.Extremes.{max0, maxℤ}
use Rattle.path.specs.declared.SensedQuestion.{SensedQuestion}
use Rattle.path.specs.Letters.{u, q, a, d, e, upper_q, b}

-- The advice rule: the height gained n/m seconds after it begins, times 2 × strength × m². Lower, strength is a, target is q, speed is u_d, and
-- n/m is s = t − d: "G = max(0, q − u_d): while s < G/a, f = f_d + u_d × s + a × s²/2; from then on f = f_d + q × s − G²/(2 × a)", here without f_d. Where
-- speed exceeds target, G is 0: the speed is target from the start.
unfoldable pub advice_gain : ℕ → ℤ → ℤ → ℕ → ℕ → ℤ
advice_gain strength target speed n m =
    let G = max0 (target -ℤ speed) in
    cond (ltb (strength * n) (G * m))
    (pos strength *ℤ (pos 2 *ℤ speed *ℤ pos n *ℤ pos m +ℤ pos strength *ℤ pos n *ℤ pos n))
    (pos 2 *ℤ pos strength *ℤ target *ℤ pos n *ℤ pos m -ℤ pos G *ℤ pos G *ℤ pos m *ℤ pos m)

-- The delay: speed × t + acceleration × t²/2, times 2 × m²; speed is u. On the lower path acceleration is −e, against the advice: "f = u × t − e × t²/2". On the
-- upper it is e: "The upper path accelerates by e towards the advice during the delay, u × t + e × t²/2" (document 02, "Two-sided with a slow pilot").
unfoldable pub delay_height : ℤ → ℤ → ℕ → ℕ → ℤ
delay_height acceleration speed n m = pos 2 *ℤ speed *ℤ pos n *ℤ pos m +ℤ acceleration *ℤ pos n *ℤ pos n

-- A path of two parts: up to the second `end`, the height that `before` gives; then its height at `end` and what `after` adds in the time since. Each part
-- comes on a scale of its own, and is multiplied by the number before it to bring both to one scale.
unfoldable pub continued : ℕ → (ℕ → ℕ → ℤ) → ℕ → ℕ → (ℕ → ℕ → ℤ) → ℕ → ℕ → ℤ
continued times-before before end times-after after n m =
    cond (leb n (end * m))
    (pos times-before *ℤ before n m)
    (pos times-before *ℤ before (end * m) m +ℤ pos times-after *ℤ after (n - end * m) m)

-- the speed at d: "speed there is u_d = u − e × d"
abbrev pub u_d : SensedQuestion → ℤ
u_d question = u question -ℤ pos (e question) *ℤ pos (d question)

-- The lower path f: the delay up to d, then the advice rule from the height f_d and the speed u_d. The delay stands times 2 × m² and is multiplied by a; the
-- rule's gain stands times 2 × a × m² already and is multiplied by 1.
abbrev pub lower_path : SensedQuestion → ℕ → ℕ → ℤ
lower_path question =
    continued
    (a question) (delay_height (neg_ℤ (pos (e question))) (u question))
    (d question)
    1 (advice_gain (a question) (q question) (u_d question))

-- "the speed reached", u + e × d
abbrev pub speed_reached : SensedQuestion → ℤ
speed_reached question = u question +ℤ pos (e question) *ℤ pos (d question)

-- "max(w × (upper target − vi), u) for q", "with the speed reached for u"
abbrev pub upper_target : SensedQuestion → ℤ
upper_target question = maxℤ (upper_q question) (speed_reached question)

-- The upper path j: the delay up to d, "and then follows the upper rule from the height reached, with the speed reached for u"; the upper rule is "the same rule"
-- "with b for a"
abbrev pub upper_path : SensedQuestion → ℕ → ℕ → ℤ
upper_path question =
    continued
    (b question) (delay_height (pos (e question)) (u question))
    (d question)
    1 (advice_gain (b question) (upper_target question) (speed_reached question))
