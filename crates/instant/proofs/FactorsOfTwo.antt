-- Trailing zeros count factors of two: 2 to their number divides a number, and 2 to the smaller number of two divides both. By induction on the digits.
-- Assumes nothing.
use mathlib.Core.Path.{◌≡◌, refl, sym, ap, subst, ◌∙◌}
use Prim.Native.Nat.{ℕ, zero, suc, ◌-◌, ◌*◌, ◌/◌, ◌%◌, ◌^◌, ◌≤◌, ◌∣◌, min}
use native.Mathlib.Nat.{add-sub_of_le, min-le_left, min-le_right, pow-suc}
use native.Mathlib.Nat.{one-dvd, dvd_trans, dvd-mul_right, mul-dvd-mul_right}
use native.Mathlib.Omega.{arith}
use lib.Pow.{pow-add}
use lib.Count.{count_trailing_zeros, under}

-- a number is divisible by 2 to its count of trailing zeros
pub zeros_divide : (w n : ℕ) → 2 ^ count_trailing_zeros w n ∣ n
unfolding count_trailing_zeros
zeros_divide zero n = one-dvd n
zeros_divide (suc w) n = digit (n % 2) refl (zeros_divide w (n / 2))
  where
    twice : n % 2 ≡ 0 → n / 2 * 2 ≡ n
    twice e = omega arith

    digit : (r : ℕ) → n % 2 ≡ r → 2 ^ count_trailing_zeros w (n / 2) ∣ n / 2 → 2 ^ under r (count_trailing_zeros w (n / 2)) ∣ n
    digit zero e h = rw pow-suc (subst (λ (x : ℕ). 2 ^ count_trailing_zeros w (n / 2) * 2 ∣ x) (twice e) (mul-dvd-mul_right _ h 2))
    digit (suc r) e h = one-dvd n

-- a smaller power of two divides a larger one
power_divides : (i j : ℕ) → i ≤ j → 2 ^ i ∣ 2 ^ j
power_divides i j h =
    subst (λ (x : ℕ). 2 ^ i ∣ x) (sym (pow-add 2 i (j - i)) ∙ ap (λ (x : ℕ). 2 ^ x) (add-sub_of_le h)) (dvd-mul_right (2 ^ i) (2 ^ (j - i)))

module _ (w n m : ℕ) where
  -- the factors of two that n and m share
  abbrev pub shared_twos : ℕ
  shared_twos = min (count_trailing_zeros w n) (count_trailing_zeros w m)

  pub shared_left : 2 ^ shared_twos ∣ n
  shared_left = dvd_trans _ (power_divides _ _ (min-le_left _ _)) (zeros_divide w n)

  pub shared_right : 2 ^ shared_twos ∣ m
  shared_right = dvd_trans _ (power_divides _ _ (min-le_right _ _)) (zeros_divide w m)
