-- Clamping changes neither test of a second.
use mathlib.Core.Path.{◌≡◌, sym, ap₂}
use mathlib.Core.Bool.{◌&&◌}
use mathlib.Core.List.{[], ◌∷◌}
use Prim.Native.Nat.{ℕ, ◌+◌, ◌*◌, ◌<◌}
use native.Mathlib.Omega.{arith}
use lib.IntN.{pos, neg_ℤ, ◌-ℤ◌, ◌*ℤ◌, nat_abs}
use Rattle.integers.proofs.Quotation.{quote}
use Rattle.integers.proofs.Certificates.{ring}
use Rattle.path.specs.declared.SensedQuestion.{SensedQuestion}
use Rattle.path.specs.Letters.{c, p, k, wh}
use Rattle.path.specs.Window.{distance_at}
use Rattle.flight.specs.inner.Parts.{near_part}
use Rattle.flight.specs.inner.Tests.{reaches}
use Rattle.flight.specs.inner.Clamped.{most_gained, clamped}
use Rattle.flight.proofs.NearParts.{near_part_lem}
use Rattle.flight.proofs.PlainNumbers.{negated_size}
use Rattle.flight.proofs.Clamped.{reaches_clamped}
use Rattle.second.specs.declared.Motion.{Motion}
use Rattle.second.specs.inner.SecondSizes.{MotionSizes}
use Rattle.second.specs.inner.SecondTests.{edge_below, edge_above, crosses_in}

module _ (s : SensedQuestion) (motion : Motion) where
  -- the upper edge, turned over
  pub turned_edge : pos 2 *ℤ (pos 0 -ℤ wh s -ℤ pos (k s)) -ℤ neg_ℤ motion.height ≡ neg_ℤ (edge_above s motion)
  turned_edge = ring (k s ∷ []) (wh s ∷ motion.height ∷ []) (λ v. search quote depth 20) tt

  pub clamping_changes_nothing : (n : ℕ) → MotionSizes motion
      → let part = near_part (c s) (p s) (distance_at s n 1) in
      (reaches (clamped most_gained (edge_below s motion)) motion.speed motion.acceleration part
      && reaches (clamped most_gained (neg_ℤ (edge_above s motion))) (neg_ℤ motion.speed) (neg_ℤ motion.acceleration) part)
      ≡ crosses_in s n motion
  clamping_changes_nothing n m =
      let part = near_part (c s) (p s) (distance_at s n 1) in
      let proper = (near_part_lem (c s) (p s) (distance_at s n 1)).proper in
      let gain : 2 * nat_abs motion.speed + nat_abs motion.acceleration < most_gained = omega (arith, m.speed_hi, m.acceleration_hi) in
      ap₂ ◌&&◌
      (sym (reaches_clamped most_gained (edge_below s motion) motion.speed motion.acceleration gain part proper))
      (sym (reaches_clamped most_gained (neg_ℤ (edge_above s motion)) (neg_ℤ motion.speed) (neg_ℤ motion.acceleration) (omega (arith, gain, negated_size motion.speed, negated_size motion.acceleration)) part proper))
