-- The paths do not cross: the lower path is nowhere above the upper one, with any delay, where a ≤ b (which 14 tests) and the sensed upper target is no less than the
-- sensed target (which 15 tests). During the delay they part by e; then the upper rule begins no slower, and gains no less. Assumes nothing.
use mathlib.Core.List.{[], ◌∷◌}
use Prim.Native.Nat.{ℕ, ◌*◌, ◌≤◌}
use lib.IntN.{pos, ◌*ℤ◌}
use lib.Signed.{◌≤ℤ◌}
use Rattle.integers.proofs.Quotation.{quote}
use Rattle.integers.proofs.Certificates.{by≤, gap≤, ◌⊠◌, 0≤pos}
use Rattle.path.specs.declared.SensedQuestion.{SensedQuestion}
use Rattle.path.specs.Letters.{q, a, upper_q, b}
use Rattle.path.specs.Paths.{lower_path, upper_path}
use Rattle.band.specs.Band.{lower_height, upper_height, NoHigher}
use Rattle.band.proofs.PathsInOrder.{paths_in_order}

module _ (s : SensedQuestion) (strengths : a s ≤ b s) (targets : q s ≤ℤ upper_q s) where
  -- each on its scale, 2*a*m² and 2*b*m²
  pub paths_ordered : (n m : ℕ) → (pos (b s) *ℤ lower_path s n m) ≤ℤ (pos (a s) *ℤ upper_path s n m)
  paths_ordered n m = paths_in_order s strengths targets n m

  -- as heights: f ≤ j at every rational time
  pub paths_do_not_cross : (n m : ℕ) → NoHigher (lower_height s n m) (upper_height s n m)
  paths_do_not_cross n m = by≤ (a s ∷ b s ∷ m ∷ []) (lower_path s n m ∷ upper_path s n m ∷ []) (0≤pos (2 * m * m) ⊠ gap≤ (paths_in_order s strengths targets n m)) (λ v. search quote depth 20) tt
