-- The turning instant as the code finds it, by its branch on q. Assumes nothing.
use Rattle.std.specs.Prelude.{Some}
use mathlib.Core.Path.{◌≡◌, refl, ap}
use mathlib.Core.List.{[], ◌∷◌}
use Prim.Native.Nat.{ℕ, ◌+◌, ◌*◌}
use lib.IntN.{ℤ, pos, negsuc, neg_ℤ, ◌-ℤ◌}
use lib.Signed.{◌≤ℤ◌}
use Rattle.integers.specs.Extremes.{max0}
use Rattle.integers.proofs.Quotation.{quote}
use Rattle.integers.proofs.Certificates.{ring}
use Rattle.instant.specs.Order.{◌÷◌}
use Rattle.path.specs.Instants.{turning_instant}

module _ (a d : ℕ) (x : ℤ) where
  pub turning : (q : ℤ) → pos 0 ≤ℤ q → Some (d * a + max0 (neg_ℤ x) ÷ a) ≡ turning_instant q a d x
  turning (pos q) h = refl
  turning (negsuc q) h = absurd h.le

pub zero_minus : (z : ℤ) → max0 (pos 0 -ℤ z) ≡ max0 (neg_ℤ z)
zero_minus z = ap max0 {x = pos 0 -ℤ z} {y = neg_ℤ z} (ring [] (z ∷ []) (λ v. search quote depth 20) tt)
