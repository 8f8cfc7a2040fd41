-- Why k is at least 1, which 2 tests: with k 0 the band may be one line, and the intruder's height on it at no rational time. The ownship climbs from level flight to 10
-- with strength 2, upper target and strength the same: f = j = t². The intruder is 2 above, and √2 is no n/m. Assumes nothing.
use Rattle.std.specs.Prelude.{Err}
use mathlib.Core.Path.{◌≡◌, refl, ap, subst, sym, ◌∙◌}
use mathlib.Core.List.{[], ◌∷◌}
use mathlib.Core.Logic.{◌⊎◌, inl, inr, ⊎_elim}
use Prim.Native.Nat.{ℕ, zero, suc, ◌+◌, ◌*◌, ◌-◌, ◌<◌, ◌≤◌}
use native.Mathlib.Nat.{mul-pos, mul-le-mul_left, mul-le-mul_right}
use native.Mathlib.Omega.{arith}
use lib.IntN.{ℤ, pos, ◌*ℤ◌}
use lib.Signed.{le_z_yes}
use Rattle.integers.proofs.Quotation.{quote}
use Rattle.integers.proofs.Certificates.{ring, modulo, by<, gap≤, ◌⊠◌, 0≤pos, pos≤}
use Rattle.integers.proofs.Laws.{split≤}
use Rattle.instant.specs.Order.{◌÷◌}
use Rattle.path.specs.Paths.{advice_gain, delay_height, continued, lower_path}
use Rattle.path.proofs.AdviceRule.{gain_zero, gain_arc}
use Rattle.path.proofs.Continued.{continued_after}
use Rattle.question.specs.declared.Encounter.{Encounter}
use Rattle.question.specs.declared.Settings.{Settings}
use Rattle.question.specs.declared.Question.{Question}
use Rattle.question.specs.Refusals.{refusal}
use Rattle.sensed.specs.Sensed.{sensed_question}
use Rattle.band.specs.Band.{lowered, raised, Outside}
use Rattle.band.proofs.WhyTested.{climb_to_10, Fails}
use Rattle.question.specs.declared.refusal.Refusal.{Refusal}

-- ---- √2 is no fraction: n² = 2*m² has a solution with smaller numbers
halves : (n : ℕ) → (h : ℕ) × ((n ≡ h + h) ⊎ (n ≡ suc (h + h)))
halves zero = (0, inl (omega arith))
halves (suc n) = let r = halves n in ⊎_elim (λ (e : n ≡ r.0 + r.0). (r.0, inr (omega (arith, e)))) (λ (e : n ≡ suc (r.0 + r.0)). (suc r.0, inl (omega (arith, e)))) r.1

smaller : (n m : ℕ) → 1 ≤ m → n * n ≡ 2 * (m * m) → m < n
smaller n m p e = ⊎_elim
    (λ (l : n ≤ m). let x : n * n ≤ n * m = mul-le-mul_left n l in let y : n * m ≤ m * m = mul-le-mul_right m l in let z : 1 ≤ m * m = mul-pos p p in absurd (omega arith))
    (λ (l : m < n). l)
    (split≤ n m)

no_root : (bound n m : ℕ) → n ≤ bound → 1 ≤ m → n * n ≡ 2 * (m * m) → ⊥
no_root zero n m l p e = let s = smaller n m p e in omega arith
no_root (suc bound) n m l p e =
    let s = smaller n m p e in
    let h = (halves n).0 in
    ⊎_elim
    (λ (x : n ≡ h + h). let y : n * n ≡ (h + h) * (h + h) = ap (λ (t : ℕ). t * t) x in no_root bound m h (omega arith) (omega arith) (omega arith))
    (λ (x : n ≡ suc (h + h)). let y : n * n ≡ suc (h + h) * suc (h + h) = ap (λ (t : ℕ). t * t) x in omega arith)
    (halves n).1

-- ---- up to 5 s both paths are t², times 2*2*m²
square : (n m : ℕ) → n ≤ 5 * m → continued 2 (delay_height (pos 0) (pos 0)) 0 1 (advice_gain 2 (pos 10) (pos 0)) n m ≡ pos 4 *ℤ pos n *ℤ pos n
unfolding delay_height
square n m l =
    let rule = advice_gain 2 (pos 10) (pos 0) in
    continued_after 2 (delay_height (pos 0) (pos 0)) 0 1 rule (λ m. gain_zero 2 m (pos 10) (pos 0)) n m (omega arith)
    ∙ modulo (pos 1) (ap (λ (i : ℕ). rule i m) {x = n - 0 * m} {y = n} (omega arith) ∙ gain_arc 2 n m (pos 10) (pos 0) (omega arith) (omega arith))
    (ring (n ∷ m ∷ 0 * m ∷ []) (advice_gain 2 (pos 10) (pos 0) (n - 0 * m) m ∷ []) (λ v. search quote depth 20) tt)

-- t² is below 2 or above it
beside : (n m : ℕ) → 1 ≤ m → Outside (pos 2) (record { from = lowered 0 (record { number = pos 4 *ℤ pos n *ℤ pos n; divisor = 2 * 2 * m * m }); to = raised 0 (record { number = pos 4 *ℤ pos n *ℤ pos n; divisor = 2 * 2 * m * m }) })
beside n m pm = ⊎_elim
    (λ (l : n * n ≤ 2 * (m * m)). ⊎_elim
    (λ (h : 2 * (m * m) ≤ n * n). absurd (no_root n n m (omega arith) pm (omega arith)))
    (λ (h : n * n < 2 * (m * m)). inr (by< (n ∷ m ∷ []) [] (0≤pos 4 ⊠ gap≤ (pos≤ h)) (λ v. search quote depth 20) tt))
    (split≤ (2 * (m * m)) (n * n)))
    (λ (l : 2 * (m * m) < n * n). inl (by< (n ∷ m ∷ []) [] (0≤pos 4 ⊠ gap≤ (pos≤ l)) (λ v. search quote depth 20) tt))
    (split≤ (n * n) (2 * (m * m)))

abbrev pub above_2 : Encounter
above_2 = record { distance = pos 0; height = pos 2; closing_speed = pos 0; speed = pos 0; intruder_speed = pos 0 }

abbrev pub puck_0 : Settings
puck_0 = record { radius = pos 0; half_height = pos 0; delay_acceleration = pos 0 }

abbrev pub one_path : Question
one_path = climb_to_10 (pos 10) (pos 2)

pub needs_2 : (refusal above_2 puck_0 one_path ≡ Err Refusal.PuckOutside) × Fails above_2 puck_0 one_path
unfolding refusal sensed_question advice_gain delay_height continued
needs_2 =
    let s = sensed_question above_2 puck_0 one_path in (
      refl,
      record {
        lower = (0 ÷ 1, record { divisor = omega arith; conflict = record { window = record { near = omega arith; intime = omega arith }; vertical = le_z_yes tt } });
        upper = (4 ÷ 1, record { divisor = omega arith; conflict = record { window = record { near = omega arith; intime = omega arith }; vertical = le_z_yes tt } });
        outside = λ n m w.
            let i : n ≤ 4 * m = w.intime in
            let same : lower_path s n m ≡ pos 4 *ℤ pos n *ℤ pos n = square n m (omega arith) in
            subst (λ (f : ℤ). Outside (pos 2) (record { from = lowered 0 (record { number = f; divisor = 2 * 2 * m * m }); to = raised 0 (record { number = f; divisor = 2 * 2 * m * m }) })) (sym same) (beside n m w.divisor);
      },
    )
