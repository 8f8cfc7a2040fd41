-- The earlier upper path, which had no delay: "the same rule from t = 0 with b for a and with max(w × (upper target − vi), u) for q". With delay 0 the upper path is
-- that one, and so are its target and the test of a conflict. Assumes nothing.
use mathlib.Core.Path.{◌≡◌, ap, ◌∙◌}
use mathlib.Core.Bool.{Bool, ◌&&◌}
use mathlib.Core.List.{[], ◌∷◌}
use Prim.Native.Nat.{ℕ, ◌*◌, ◌-◌}
use native.Mathlib.Omega.{arith}
use lib.IntN.{ℤ, pos}
use lib.Signed.{le_z}
use Rattle.integers.specs.Extremes.{maxℤ}
use Rattle.integers.proofs.Quotation.{quote}
use Rattle.integers.proofs.Certificates.{ring, modulo}
use Rattle.path.specs.declared.SensedQuestion.{SensedQuestion}
use Rattle.path.specs.declared.Side.TheVariants.{Upper}
use Rattle.path.specs.Letters.{u, d, e, upper_q, b}
use Rattle.path.specs.Paths.{advice_gain, delay_height, speed_reached, upper_target, upper_path}
use Rattle.path.specs.Conflict.{upper_edge}
use Rattle.path.specs.inner.Tests.{in_window, not_beyond, in_conflict}
use Rattle.path.proofs.AdviceRule.{gain_zero}
use Rattle.path.proofs.Continued.{continued_after}

-- "max(w × (upper target − vi), u)"
abbrev pub earlier_target : SensedQuestion → ℤ
earlier_target s = maxℤ (upper_q s) (u s)

-- the rule from t = 0
abbrev pub earlier_path : SensedQuestion → ℕ → ℕ → ℤ
earlier_path s = advice_gain (b s) (earlier_target s) (u s)

-- a conflict with it, as a test
unfoldable pub earlier_conflict : SensedQuestion → ℕ → ℕ → Bool
unfolding advice_gain in_window
earlier_conflict s n m = in_window s n m && le_z (upper_edge s m) (earlier_path s n m)

delay_zero : (g : ℤ) (m : ℕ) (u : ℤ) → delay_height g u 0 m ≡ pos 0
unfolding delay_height
delay_zero g m u = ring (m ∷ []) (g ∷ u ∷ []) (λ v. search quote depth 20) tt

module _ (s : SensedQuestion) (none : d s ≡ 0) where
  speed_without_delay : speed_reached s ≡ u s
  speed_without_delay = modulo (pos (e s)) (ap pos none) (ring (e s ∷ d s ∷ []) (u s ∷ []) (λ v. search quote depth 20) tt)

  pub target_without_delay : upper_target s ≡ earlier_target s
  target_without_delay = ap (λ (x : ℤ). maxℤ (upper_q s) x) speed_without_delay

  pub path_without_delay : (n m : ℕ) → upper_path s n m ≡ earlier_path s n m
  path_without_delay n m =
      let delay = delay_height (pos (e s)) (u s) in
      let rule = advice_gain (b s) (upper_target s) (speed_reached s) in
      let end : d s * m ≡ 0 = rw none (omega arith) in
      let same : rule (n - d s * m) m ≡ earlier_path s n m =
      ap (λ (x : ℤ). advice_gain (b s) (maxℤ (upper_q s) x) x (n - d s * m) m) speed_without_delay ∙ ap (λ (i : ℕ). earlier_path s i m) {x = n - d s * m} {y = n} (omega arith) in
      continued_after (b s) delay (d s) 1 rule (λ m. gain_zero (b s) m (upper_target s) (speed_reached s)) n m (omega arith)
      ∙ modulo (pos (b s)) (ap (λ (i : ℕ). delay i m) end ∙ delay_zero (pos (e s)) m (u s)) (modulo (pos 1) same
      (ring (b s ∷ []) (delay_height (pos (e s)) (u s) (d s * m) m ∷ advice_gain (b s) (upper_target s) (speed_reached s) (n - d s * m) m ∷ earlier_path s n m ∷ []) (λ v. search quote depth 20) tt))

  pub conflict_without_delay : (n m : ℕ) → in_conflict Upper s n m ≡ earlier_conflict s n m
  unfolding in_conflict not_beyond earlier_conflict
  conflict_without_delay n m = ap (λ (height : ℤ). in_window s n m && le_z (upper_edge s m) height) (path_without_delay n m)
