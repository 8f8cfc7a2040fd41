-- The test decides the formula: `holds` computes to true exactly where `Says` holds, connective by connective. Assumes nothing.
use mathlib.Core.Path.{sym}
use mathlib.Core.Bool.{Bool, true, false, not, ◌||◌}
use mathlib.Core.Logic.{◌⊎◌, inl, inr, ⊎_elim, ◌↔◌}
use lib.Dec.{T}
use lib.Ieee.Fits.{and_i, and_l, and_r}
use lib.Signed.{le_z, le_z_yes, lt_z_yes}
use Rattle.integers.proofs.Laws.{≤ℤ_antisym, ≤ℤ-of-≡}
use Rattle.region.specs.Formula.{Formula, ◌at_most◌, ◌less_than◌, ◌equals◌, ◌and◌, ◌or◌, ◌implies◌, Says}
use Rattle.region.specs.inner.Holds.{holds}

or_test : (a b : Bool) → T (a || b) ↔ (T a ⊎ T b)
or_test true b = (λ t. inl t, λ h. tt)
or_test false b = (λ t. inr t, λ h. ⊎_elim (λ x. absurd x) (λ x. x) h)

implies_test : (a b : Bool) → T (not a || b) ↔ (T a → T b)
implies_test true b = (λ t x. t, λ h. h tt)
implies_test false b = (λ t x. absurd x, λ h. tt)

pub decides : (f : Formula) → T (holds f) ↔ Says f
decides (x at_most y) = (λ t. le_z_yes t, λ h. h.le)
decides (x less_than y) = (λ t. lt_z_yes t, λ h. h.lt)
decides (x equals y) = (
  λ t. ≤ℤ_antisym (le_z_yes (and_l (le_z x y) (le_z y x) t)) (le_z_yes (and_r (le_z x y) (le_z y x) t)),
  λ e. and_i (le_z x y) (le_z y x) (≤ℤ-of-≡ e).le (≤ℤ-of-≡ (sym e)).le,
)
decides (f and g) = (
  λ t. ((decides f).0 (and_l (holds f) (holds g) t), (decides g).0 (and_r (holds f) (holds g) t)),
  λ h. and_i (holds f) (holds g) ((decides f).1 h.0) ((decides g).1 h.1),
)
decides (f or g) = (
  λ t. ⊎_elim (λ x. inl ((decides f).0 x)) (λ x. inr ((decides g).0 x)) ((or_test (holds f) (holds g)).0 t),
  λ h. (or_test (holds f) (holds g)).1 (⊎_elim (λ x. inl ((decides f).1 x)) (λ x. inr ((decides g).1 x)) h),
)
decides (f implies g) = (
  λ t x. (decides g).0 ((implies_test (holds f) (holds g)).0 t ((decides f).1 x)),
  λ h. (implies_test (holds f) (holds g)).1 (λ x. (decides g).1 (h ((decides f).0 x))),
)
