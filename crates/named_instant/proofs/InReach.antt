-- The test of the reach decides it, and what the judge compares is in reach: a fraction in the lower side's reach, or a whole second in the upper one's, is so in
-- lowest terms too. Assumes nothing.
use Rattle.std.specs.Bool.{Decides}
use Rattle.std.proofs.lemmas.Bool.Decides.{Decides-and, Decides-or, Decides-ltb, Decides-eqb}
use Rattle.std.proofs.lemmas.Bool.{leb-true, le-leb}
use mathlib.Core.Path.{◌≡◌}
use mathlib.Core.Bool.{true}
use mathlib.Core.Logic.{◌⊎◌, inl, inr}
use Prim.Native.Nat.{ℕ, ◌*◌, ◌<◌, ◌≤◌}
use native.Mathlib.Nat.{mul-le-mul_left, le_of_mul-le-mul_right}
use native.Mathlib.Omega.{arith}
use lib.Dec.{leb}
use Rattle.instant.specs.declared.Instant.{Instant}
use Rattle.instant.specs.Order.{◌÷◌}
use Rattle.instant.proofs.LowestTerms.{lowest_is, divisor_le}
use Rattle.path.specs.declared.Side.TheVariants.{Lower}
use Rattle.path.specs.inner.Sizes.{Compared}
use Rattle.named_instant.specs.Reach.{value, max_divisor, max_numerator, max_second, in_reach}

nat_decides : (m n : ℕ) → Decides (leb m n) (m ≤ n)
nat_decides m n = (leb-true m n, le-leb m n)

abbrev pub Reached : Instant → Type 0
Reached t = ((0 < t.m) × (t.m ≤ max_divisor)) × ((t.n ≤ max_numerator) ⊎ ((t.m ≡ 1) × (t.n ≤ max_second)))

pub reach_decided : (t : Instant) → Decides (in_reach t) (Reached t)
reach_decided t = Decides-and _ _ (Decides-and _ _ (Decides-ltb 0 t.m) (nat_decides t.m max_divisor))
    (Decides-or _ _ (nat_decides t.n max_numerator) (Decides-and _ _ (Decides-eqb t.m 1) (nat_decides t.n max_second)))

-- ---- lowest terms have no larger numbers
module _ (t : Instant) (p : 0 < t.m) where
  smaller_divisor : (value t).m ≤ t.m
  smaller_divisor = divisor_le t.n t.m

  smaller_numerator : (value t).n ≤ t.n
  smaller_numerator =
      let e = (lowest_is t.n t.m p).value in
      le_of_mul-le-mul_right {m = (value t).n} {n = t.n} {k = t.m} (omega (arith, e, mul-le-mul_left t.n smaller_divisor)) p

  positive_divisor : 0 < (value t).m
  positive_divisor = omega (arith, (lowest_is t.n t.m p).below)

  pub compared_reached : Compared Lower t.n t.m → in_reach (value t) ≡ true
  compared_reached (inl h) = (reach_decided (value t)).1 ((positive_divisor, omega (arith, smaller_divisor, h.m_hi)), inl (omega (arith, smaller_numerator, h.n_hi)))
  compared_reached (inr (h, e)) = (reach_decided (value t)).1 (
    (positive_divisor, omega (arith, smaller_divisor, h.m_hi)),
    inr (omega (arith, smaller_divisor, positive_divisor, e), omega (arith, smaller_numerator, h.n_hi)),
  )

-- a decimal of three places is n/1000
pub decimals_reached : (n : ℕ) → n ≤ 12000 * 1000 → in_reach (value (n ÷ 1000)) ≡ true
decimals_reached n h = compared_reached (n ÷ 1000) (omega arith) (inl (record { n_hi = omega arith; m_lo = omega arith; m_hi = omega arith }))
