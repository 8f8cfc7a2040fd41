-- Why 14 and 15 are tested: two questions, refused by them, with conflict times on both sides, and yet always outside the band. The ownship climbs from level flight to
-- 10 with strength 2, f = t²; the intruder is 7 above, k is 1, the limit 4 s. With upper strength 1 (14), j = t²/2; with upper target 2 (15), j = 2 × t − 1 from
-- 1 s on. Up to 3 s j is below 6 = 7 − 1, after it f above 8 = 7 + 1: the upper path has not yet come to the intruder when the lower one has passed it. Assumes nothing.
use Rattle.std.specs.Prelude.{Err}
use mathlib.Core.Path.{◌≡◌, refl, sym, subst}
use mathlib.Core.List.{[], ◌∷◌}
use mathlib.Core.Logic.{inl, inr, ⊎_elim}
use Prim.Native.Nat.{ℕ, ◌+◌, ◌*◌, ◌-◌, ◌<◌, ◌≤◌}
use native.Mathlib.Omega.{arith}
use lib.IntN.{ℤ, pos, ◌*ℤ◌}
use lib.Signed.{◌≤ℤ◌, le_z_yes}
use Rattle.integers.proofs.Quotation.{quote}
use Rattle.integers.proofs.Certificates.{by<, gap≤, ◌⊞◌, ◌⊠◌, 0≤pos, pos≤}
use Rattle.integers.proofs.Laws.{≤ℤ-of-≡, ≤ℤ_trans, split≤}
use Rattle.instant.specs.Order.{◌÷◌}
use Rattle.path.specs.declared.SensedQuestion.{SensedQuestion}
use Rattle.path.specs.declared.Side.TheVariants.{Lower, Upper}
use Rattle.path.specs.Paths.{advice_gain, delay_height, continued, lower_path, upper_path}
use Rattle.path.specs.Conflict.{ConflictExists}
use Rattle.path.proofs.AdviceRule.{gain_zero, rises_from_turning}
use Rattle.path.proofs.Continued.{after_keeps}
use Rattle.path.proofs.SideProfiles.{lower_scale, upper_scale}
use Rattle.question.specs.declared.Encounter.{Encounter}
use Rattle.question.specs.declared.Settings.{Settings}
use Rattle.question.specs.declared.Question.{Question}
use Rattle.question.specs.Refusals.{refusal}
use Rattle.sensed.specs.Sensed.{sensed_question}
use Rattle.band.specs.Band.{lowered, raised, Below, Above, Outside, AlwaysOutside}
use Rattle.question.specs.declared.refusal.Refusal.{Refusal}

abbrev pub above_7 : Encounter
above_7 = record { distance = pos 0; height = pos 7; closing_speed = pos 0; speed = pos 0; intruder_speed = pos 0 }

abbrev pub puck_1 : Settings
puck_1 = record { radius = pos 0; half_height = pos 1; delay_acceleration = pos 0 }

-- upper target and upper strength
abbrev pub climb_to_10 : ℤ → ℤ → Question
climb_to_10 target strength = record { sides = pos 2; sense = pos 1; target = pos 10; upper_target = target; strength = pos 2; upper_strength = strength; delay = pos 0; limit = pos 4 }

-- the statement fails: a conflict on each side, and always outside the band
pub record Fails (x : Encounter) (y : Settings) (z : Question) : Type 0 where
  pub lower : ConflictExists Lower (sensed_question x y z)
  pub upper : ConflictExists Upper (sensed_question x y z)
  pub outside : AlwaysOutside (sensed_question x y z)

abbrev pub weak : Question
weak = climb_to_10 (pos 10) (pos 1)

abbrev pub slow : Question
slow = climb_to_10 (pos 2) (pos 2)

-- ---- the paths rise, so that their heights at 3 s are a bound on each side of it
rises : (times strength target : ℕ) (before : ℕ → ℕ → ℤ) (n i m : ℕ) → n ≤ i → continued times before 0 1 (advice_gain strength (pos target) (pos 0)) n m ≤ℤ continued times before 0 1 (advice_gain strength (pos target) (pos 0)) i m
rises times strength target before n i m l = after_keeps times before 0 1 (advice_gain strength (pos target) (pos 0)) (λ m. gain_zero strength m (pos target) (pos 0)) m n i (omega arith) (omega arith)
    (rises_from_turning strength (n - 0 * m) (i - 0 * m) m target (pos 0) (omega arith) (omega arith))

at_three : (path : ℕ → ℕ → ℤ) → ((n m x : ℕ) → path (n * x) (m * x) ≡ pos x *ℤ pos x *ℤ path n m) → (m : ℕ) → path (3 * m) m ≡ pos m *ℤ pos m *ℤ path 3 1
at_three path scale m = subst (λ (i : ℕ). path (3 * m) i ≡ pos m *ℤ pos m *ℤ path 3 1) {x = 1 * m} {y = m} (omega arith) (scale 3 1 m)

-- f is 9 at 3 s, and 9 > 7 + 1
passed : (m : ℕ) (f : ℤ) → 1 ≤ m → (pos m *ℤ pos m *ℤ pos 36) ≤ℤ f → Below (pos 7) (lowered 1 (record { number = f; divisor = 2 * 2 * m * m }))
passed m f pm l = by< (m ∷ []) (f ∷ []) (gap≤ l ⊞ 0≤pos 4 ⊠ gap≤ (pos≤ pm) ⊠ 0≤pos (m + 1)) (λ v. search quote depth 20) tt

-- 2 × b × j is x at 3 s, and j + 1 < 7
not_yet : (b m x : ℕ) (j : ℤ) → 1 ≤ m → x < 12 * b → j ≤ℤ (pos m *ℤ pos m *ℤ pos x) → Above (pos 7) (raised 1 (record { number = j; divisor = 2 * b * m * m }))
not_yet b m x j pm small l = by< (b ∷ m ∷ x ∷ []) (j ∷ []) (gap≤ l ⊞ gap≤ (pos≤ small) ⊠ 0≤pos (m * m) ⊞ gap≤ (pos≤ pm) ⊠ 0≤pos (m + 1)) (λ v. search quote depth 20) tt

-- so at every time the one or the other
apart : (b x n m : ℕ) (f j : ℤ) → 1 ≤ m → x < 12 * b → (3 * m ≤ n → (pos m *ℤ pos m *ℤ pos 36) ≤ℤ f) → (n ≤ 3 * m → j ≤ℤ (pos m *ℤ pos m *ℤ pos x))
    → Outside (pos 7) (record { from = lowered 1 (record { number = f; divisor = 2 * 2 * m * m }); to = raised 1 (record { number = j; divisor = 2 * b * m * m }) })
apart b x n m f j pm small late early = ⊎_elim
    (λ (l : n ≤ 3 * m). inr (not_yet b m x j pm small (early l)))
    (λ (l : 3 * m < n). inl (passed m f pm (late (omega arith))))
    (split≤ n (3 * m))

module _ (s : SensedQuestion) (m : ℕ) where
  lower_from : {f : ℤ} → lower_path s (3 * m) m ≤ℤ f → (pos m *ℤ pos m *ℤ lower_path s 3 1) ≤ℤ f
  lower_from l = ≤ℤ_trans (≤ℤ-of-≡ (sym (at_three (lower_path s) (lower_scale s) m))) l

  upper_to : {j : ℤ} → j ≤ℤ upper_path s (3 * m) m → j ≤ℤ (pos m *ℤ pos m *ℤ upper_path s 3 1)
  upper_to l = ≤ℤ_trans l (≤ℤ-of-≡ (at_three (upper_path s) (upper_scale s) m))

pub needs_14 : (refusal above_7 puck_1 weak ≡ Err Refusal.StrengthOutside) × Fails above_7 puck_1 weak
unfolding refusal sensed_question advice_gain delay_height continued
needs_14 =
    let s = sensed_question above_7 puck_1 weak in
    let level = delay_height (pos 0) (pos 0) in (
      refl,
      record {
        lower = (0 ÷ 1, record { divisor = omega arith; conflict = record { window = record { near = omega arith; intime = omega arith }; vertical = le_z_yes tt } });
        upper = (4 ÷ 1, record { divisor = omega arith; conflict = record { window = record { near = omega arith; intime = omega arith }; vertical = le_z_yes tt } });
        outside = λ n m w. apart 1 9 n m (lower_path s n m) (upper_path s n m) w.divisor (omega arith) (λ l. lower_from s m (rises 2 2 10 level (3 * m) n m l)) (λ l. upper_to s m (rises 1 1 10 level n (3 * m) m l));
      },
    )

pub needs_15 : (refusal above_7 puck_1 slow ≡ Err Refusal.UpperTargetBelow) × Fails above_7 puck_1 slow
unfolding refusal sensed_question advice_gain delay_height continued
needs_15 =
    let s = sensed_question above_7 puck_1 slow in
    let level = delay_height (pos 0) (pos 0) in (
      refl,
      record {
        lower = (0 ÷ 1, record { divisor = omega arith; conflict = record { window = record { near = omega arith; intime = omega arith }; vertical = le_z_yes tt } });
        upper = (4 ÷ 1, record { divisor = omega arith; conflict = record { window = record { near = omega arith; intime = omega arith }; vertical = le_z_yes tt } });
        outside = λ n m w. apart 2 20 n m (lower_path s n m) (upper_path s n m) w.divisor (omega arith) (λ l. lower_from s m (rises 2 2 10 level (3 * m) n m l)) (λ l. upper_to s m (rises 2 2 2 level n (3 * m) m l));
      },
    )
