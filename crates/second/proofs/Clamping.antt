-- The library's `clamp` is `clamped`; and what `clamped` is, by cases.
use mathlib.Core.Path.{◌≡◌}
use Rattle.std.proofs.Common.{arith}
use Rattle.std.proofs.lemmas.Int.{ints}
use Prim.Native.Nat.{ℕ}
use lib.IntN.{ℤ, pos, neg_ℤ}
use lib.Signed.{◌≤ℤ◌, ◌<ℤ◌}
use Rattle.std.specs.Int.{int_max, int_min}
use Rattle.flight.specs.inner.Clamped.{clamped}

pub library_clamp : (L : ℕ) (A : ℤ) → int_max (neg_ℤ (pos L)) (int_min A (pos L)) ≡ clamped L A
library_clamp L A = grind (arith, ints)

module _ (L : ℕ) (A : ℤ) where
  pub clamped_above : pos L <ℤ A → pos L ≡ clamped L A
  clamped_above h = grind (arith, ints)

  module _ (h : A ≤ℤ pos L) where
    pub clamped_below : A <ℤ neg_ℤ (pos L) → neg_ℤ (pos L) ≡ clamped L A
    clamped_below l = grind (arith, ints)

    pub clamped_within : neg_ℤ (pos L) ≤ℤ A → A ≡ clamped L A
    clamped_within l = grind (arith, ints)
