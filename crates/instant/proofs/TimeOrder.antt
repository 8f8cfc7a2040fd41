-- The order of rational times: reflexive, total and, over a positive divisor in the middle, transitive; blind to a common factor of n and m; decided by
-- its test; and the earlier of two instants is the latest that is no later than both. By arithmetic on the cross products. Assumes nothing.
use mathlib.Core.Bool.{Bool, true, false, cond}
use mathlib.Core.Logic.{◌↔◌, ◌⊎◌, inl, inr}
use mathlib.Core.Path.{◌≡◌, refl, sym}
use Prim.Native.Nat.{ℕ, ◌*◌, ◌^◌, ◌≤◌, ◌<◌}
use native.Mathlib.Nat.{le_refl, le_of_eq, le_of_lt, le_antisymm, lt_of_le_of_lt}
use native.Mathlib.Nat.{mul-le-mul_left, mul-le-mul_right, mul-lt-mul_of_pos_right, le_of_mul-le-mul_right}
use native.Mathlib.Omega.{arith}
use lib.Pow.{pow_pos}
use borrow.Author.Tests.{leb-true, leb-false, le-leb, lt-leb}
use Rattle.instant.specs.declared.Instant.{Instant}
use Rattle.instant.specs.Order.{◌÷◌, ◌≼◌, ◌≺◌, ◌≈◌, no_later, earlier}
use Rattle.instant.specs.inner.Sizes.{SizedInstant}

-- ---- the test decides

module _ (a b : Instant) where
  pub no_later_true : (no_later a b ≡ true) ↔ (a ≼ b)
  no_later_true = (leb-true _ _, le-leb _ _)

  pub no_later_false : (no_later a b ≡ false) ↔ (b ≺ a)
  no_later_false = (leb-false _ _, lt-leb _ _)

-- ---- the earlier of two

module _ (a b : Instant) where
  -- what holds of a where a is no later, and of b where b is earlier, holds of the earlier of them
  pub earlier_elim : (P : Instant → Type 0) → (a ≼ b → P a) → (b ≺ a → P b) → P (earlier a b)
  earlier_elim P of-a of-b = by (no_later a b) refl
    where
      by : (t : Bool) → no_later a b ≡ t → P (cond t a b)
      by true e = of-a ((no_later_true a b).0 e)
      by false e = of-b ((no_later_false a b).0 e)

  pub earlier_one_of : (earlier a b ≡ a) ⊎ (earlier a b ≡ b)
  earlier_one_of = earlier_elim (λ x. (x ≡ a) ⊎ (x ≡ b)) (λ h. inl refl) (λ h. inr refl)

  pub earlier_left : earlier a b ≼ a
  earlier_left = earlier_elim (λ x. x ≼ a) (λ h. le_refl _) le_of_lt

  pub earlier_right : earlier a b ≼ b
  earlier_right = earlier_elim (λ x. x ≼ b) (λ h. h) (λ h. le_refl _)

  pub earlier_latest : (c : Instant) → c ≼ a → c ≼ b → c ≼ earlier a b
  earlier_latest c h k = earlier_elim (λ x. c ≼ x) (λ l. h) (λ l. k)

  pub earlier_sized : SizedInstant a → SizedInstant b → SizedInstant (earlier a b)
  earlier_sized h k = earlier_elim SizedInstant (λ l. h) (λ l. k)

-- ---- an order

pub ≼_refl : (a : Instant) → a ≼ a
≼_refl a = le_refl (a.n * a.m)

pub ≼-total : (a b : Instant) → (a ≼ b) ⊎ (b ≼ a)
≼-total a b = earlier_elim a b (λ x. (a ≼ b) ⊎ (b ≼ a)) inl (λ h. inr (le_of_lt h))

pub ≼_trans : (a b c : Instant) → 0 < b.m → a ≼ b → b ≼ c → a ≼ c
≼_trans a b c b-pos h k = le_of_mul-le-mul_right {k = b.m} (omega (arith, mul-le-mul_right c.m h, mul-le-mul_right a.m k)) b-pos

pub ≼-antisymm : (a b : Instant) → a ≼ b → b ≼ a → a ≈ b
≼-antisymm a b = le_antisymm

pub ≈-≼ : (a b : Instant) → a ≈ b → a ≼ b
≈-≼ a b = le_of_eq

pub ≈-refl : (a : Instant) → a ≈ a
≈-refl a = refl

pub ≈-sym : (a b : Instant) → a ≈ b → b ≈ a
≈-sym a b = sym

pub ≈-trans : (a b c : Instant) → 0 < b.m → a ≈ b → b ≈ c → a ≈ c
≈-trans a b c b-pos e f =
    le_antisymm (≼_trans a b c b-pos (le_of_eq e) (le_of_eq f)) (≼_trans c b a b-pos (le_of_eq (sym f)) (le_of_eq (sym e)))

-- ---- one divisor, and a common factor of n and m

pub same_divisor-≼ : (m n n' : ℕ) → 0 < m → (n ÷ m ≼ n' ÷ m) ↔ (n ≤ n')
same_divisor-≼ m n n' m-pos = (λ h. le_of_mul-le-mul_right h m-pos, mul-le-mul_right m)

pub scaled-≈ : (n m s : ℕ) → n * s ÷ m * s ≈ n ÷ m
scaled-≈ n m s = omega arith

module _ (a b : Instant) (s : ℕ) (s-pos : 0 < s) where
  pub scaled-≼-left : (a.n * s ÷ a.m * s ≼ b) ↔ (a ≼ b)
  scaled-≼-left = (λ h. le_of_mul-le-mul_right {k = s} (omega arith) s-pos, λ h. omega (arith, mul-le-mul_right s h))

  pub scaled-≼-right : (a ≼ b.n * s ÷ b.m * s) ↔ (a ≼ b)
  scaled-≼-right = (λ h. le_of_mul-le-mul_right {k = s} (omega arith) s-pos, λ h. omega (arith, mul-le-mul_right s h))

-- ---- sizes

-- a product of two numbers of 32 bits fits 64
pub product_fits : {x y : ℕ} → x < 2 ^ 32 → y < 2 ^ 32 → x * y < 2 ^ 64
product_fits {x} h k =
    lt_of_le_of_lt (mul-le-mul_left x (le_of_lt k)) (mul-lt-mul_of_pos_right {n = 2 ^ 32} {k = 2 ^ 32} h (pow_pos 32))
