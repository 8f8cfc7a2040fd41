-- `instant::lowest_terms` meets its contract: the factors of two that are shifted out are a shared factor, and what is left of the greatest common
-- divisor is the gcd of the shifted numbers; where that is 1, a division by it changes nothing.
use mathlib.Core.Path.{◌≡◌, sym}
use Prim.Native.Nat.{ℕ, ◌/◌, ◌%◌, ◌^◌, ◌<◌, ◌∣◌}
use native.Mathlib.Nat.{pos_of_ne-zero, div-one}
use Rattle.instant.specs.Lowest.{gcd, lowest}
use Rattle.instant.proofs.FactorsOfTwo.{shared_twos, shared_left, shared_right}
use Rattle.instant.proofs.LowestTerms.{factor_out_pos, factor_out}
use Rattle.instant.proofs.lowest_terms.Goals as goal

-- what the shifts and the division by g do, where m is not 0
module _ (n m twos g : ℕ) (m-pos : 0 < m) (is-twos : twos ≡ shared_twos 64 (n % m) m) (is-g : g ≡ gcd (m / 2 ^ twos) (n % m / 2 ^ twos)) where
  in_left : 2 ^ twos ∣ n % m
  in_left = rw is-twos (shared_left 64 (n % m) m)

  in-m : 2 ^ twos ∣ m
  in-m = rw is-twos (shared_right 64 (n % m) m)

  g-pos : 0 < g
  g-pos = rw is-g (factor_out_pos n m (2 ^ twos) m-pos in_left in-m)

  same : lowest n m ≡ record { seconds = n / m; remainder = n % m / 2 ^ twos / g; divisor = m / 2 ^ twos / g }
  same = rw is-g (factor_out n m (2 ^ twos) m-pos in_left in-m)

  same-one : g ≡ 1 → lowest n m ≡ record { seconds = n / m; remainder = n % m / 2 ^ twos; divisor = m / 2 ^ twos }
  same-one g-one = simp (g-one, div-one) at same

pub returns-then-common-eq1 : goal.returns-then-common-eq1
returns-then-common-eq1 c = let b = c in sym (same-one _ _ _ _ (pos_of_ne-zero b.if-m-eq0.false) b.shared_twos-twos.ensures b.common_divisor-common.ensures c.if-common-eq1.true)

pub nonzero_div-result : goal.nonzero_div-result
nonzero_div-result c = (g-pos _ _ _ _ (pos_of_ne-zero c.if-m-eq0.false) c.shared_twos-twos.ensures c.common_divisor-common.ensures)

pub nonzero_div-result-2 : goal.nonzero_div-result-2
nonzero_div-result-2 c = (g-pos _ _ _ _ (pos_of_ne-zero c.if-m-eq0.false) c.shared_twos-twos.ensures c.common_divisor-common.ensures)

pub returns : goal.returns
returns c = let b = c in sym (same _ _ _ _ (pos_of_ne-zero b.if-m-eq0.false) b.shared_twos-twos.ensures b.common_divisor-common.ensures)
