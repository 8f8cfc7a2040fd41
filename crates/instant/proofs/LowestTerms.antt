-- `lowest n m` is n/m in lowest terms, and the only such time: by the greatest common divisor's laws, and since a remainder below its divisor fixes the
-- whole seconds. From this what it is for whole times, for equal fractions and for 0, how large it is, and that shared factors may be taken out first.
-- Assumes nothing.
use mathlib.Core.Logic.{◌↔◌}
use mathlib.Core.Path.{◌≡◌, refl, sym, ap, ap₂, subst, ◌∙◌}
use Prim.Native.Nat.{ℕ, zero, suc, ◌+◌, ◌*◌, ◌/◌, ◌%◌, ◌≤◌, ◌<◌, ◌∣◌, zero-le}
use native.Mathlib.Nat.{zero-lt-suc, not-suc-le-zero, lt_of_le_of_lt, one-mul, mul_comm, mul-lt-mul_of_pos_right, lt_of_mul-lt-mul_right, eq_of_mul-eq-mul_right}
use native.Mathlib.Nat.{mod-lt, zero-div, div-le_self, div-add-mod', div-mul_cancel, div-div-eq-div-mul}
use native.Mathlib.Nat.{dvd-zero, dvd_refl, dvd_antisymm, dvd-mul_left, dvd-mul_right, mul-dvd-mul_right, dvd_of_mul-dvd-mul_right, le_of_dvd, pos_of_dvd_of_pos}
use native.Mathlib.Omega.{arith}
use lib.Arith.{digits_div, digits_mod}
use Rattle.instant.specs.declared.Time.{Time}
use Rattle.instant.specs.Order.{◌÷◌, ◌≈◌}
use Rattle.instant.specs.inner.Sizes.{SizedInstant}
use Rattle.instant.specs.LowestTerms.{shows, LowestTerms, whole_time, SizedTime}
use Rattle.instant.specs.Lowest.{gcd, reduced, lowest}
use Rattle.instant.proofs.Euclid.{gcd_greatest, gcd_pos, gcd_scale, euclids_lemma}
use Rattle.instant.proofs.TimeOrder.{≈-sym, ≈-trans}

pub lowest_reduced : (n m : ℕ) → 0 < m → lowest n m ≡ reduced n m
lowest_reduced n zero m-pos = absurd (not-suc-le-zero m-pos)
lowest_reduced n (suc m) m-pos = refl

-- ---- it is in lowest terms

module _ (n m : ℕ) (m-pos : 0 < m) where
  reduced_is : LowestTerms n m (reduced n m)
  reduced_is =
      let r = n % m in
      let g = gcd m r in
      let G = gcd_greatest m r in
      let g-pos = gcd_pos m r m-pos in
      let er : r / g * g ≡ r = div-mul_cancel g G.1 in
      let em : m / g * g ≡ m = div-mul_cancel g G.0 in
      let en : n / m * m + r ≡ n = div-add-mod' n m in
      let r-lt : r < m = mod-lt n m-pos in
      record {
        value = omega (arith, ap (λ (x : ℕ). r / g * x) em, ap (λ (x : ℕ). x * (m / g)) er, ap (λ (x : ℕ). x * (m / g)) en);
        below = lt_of_mul-lt-mul_right g {m = r / g} {n = m / g} (omega arith);
        apart = λ k i j.
            let both : k * g ∣ g = G.2 (k * g) (rw em at (mul-dvd-mul_right k j g)) (rw er at (mul-dvd-mul_right k i g)) in
            le_of_dvd (zero-lt-suc 0) (dvd_of_mul-dvd-mul_right k g-pos (subst (λ (x : ℕ). k * g ∣ x) (sym (one-mul g)) both));
      }

  pub lowest_is : LowestTerms n m (lowest n m)
  lowest_is = rw lowest_reduced reduced_is

  pub lowest_divisor_pos : 0 < (lowest n m).divisor
  lowest_divisor_pos = lt_of_le_of_lt zero-le lowest_is.below

-- ---- it is the only one

-- Two times in lowest terms that show n/m, both over the product of their divisors: the whole seconds are the quotient, what is left the remainder.
module _ (n m : ℕ) (m-pos : 0 < m) (t u : Time) (T : LowestTerms n m t) (U : LowestTerms n m u) where
  divisor_pos : 0 < t.divisor
  divisor_pos = lt_of_le_of_lt zero-le T.below

  other_pos : 0 < u.divisor
  other_pos = lt_of_le_of_lt zero-le U.below

  same : t.seconds * (t.divisor * u.divisor) + t.remainder * u.divisor ≡ u.seconds * (t.divisor * u.divisor) + u.remainder * t.divisor
  same = omega (arith, ≈-trans (shows t) (n ÷ m) (shows u) m-pos T.value (≈-sym (shows u) (n ÷ m) U.value))

  small : t.remainder * u.divisor < t.divisor * u.divisor
  small = mul-lt-mul_of_pos_right T.below other_pos

  other_small : u.remainder * t.divisor < t.divisor * u.divisor
  other_small = omega (arith, mul-lt-mul_of_pos_right U.below divisor_pos)

  same_seconds : t.seconds ≡ u.seconds
  same_seconds = sym (digits_div t.seconds small) ∙ ap (λ (x : ℕ). x / (t.divisor * u.divisor)) same ∙ digits_div u.seconds other_small

  same_left : t.remainder * u.divisor ≡ u.remainder * t.divisor
  same_left = sym (digits_mod t.seconds small) ∙ ap (λ (x : ℕ). x % (t.divisor * u.divisor)) same ∙ digits_mod u.seconds other_small

  -- t's divisor shares no factor with t's remainder, so it divides u's
  divides : t.divisor ∣ u.divisor
  divides = euclids_lemma t.divisor t.remainder u.divisor divisor_pos other_pos T.apart (rw same_left (dvd-mul_left t.divisor u.remainder))

module _ (n m : ℕ) (m-pos : 0 < m) where
  one_form : (t u : Time) → LowestTerms n m t → LowestTerms n m u → t ≡ u
  one_form t u T U =
      let s = same_seconds n m m-pos t u T U in
      let d : t.divisor ≡ u.divisor = dvd_antisymm (divides n m m-pos t u T U) (divides n m m-pos u t U T) in
      let l : t.remainder * u.divisor ≡ u.remainder * u.divisor = same_left n m m-pos t u T U ∙ ap (λ (x : ℕ). u.remainder * x) d in
      let r : t.remainder ≡ u.remainder = eq_of_mul-eq-mul_right u.divisor (other_pos n m m-pos t u T U) _ _ l in
      λ i. record { seconds = s i; remainder = r i; divisor = d i }

  pub lowest_unique : (t : Time) → LowestTerms n m t → t ≡ lowest n m
  lowest_unique t T = one_form t (lowest n m) T (lowest_is n m m-pos)

-- ---- equal fractions

-- two fractions have the same lowest terms where they are the same rational time, n * m' ≡ n' * m, and only there
pub terms_same : (n m n' m' : ℕ) → 0 < m → 0 < m' → (t t' : Time) → LowestTerms n m t → LowestTerms n' m' t' → (t ≡ t') ↔ (n ÷ m ≈ n' ÷ m')
terms_same n m n' m' m-pos m'-pos t t' L L' = (
  λ e.
      ≈-trans (n ÷ m) (shows t) (n' ÷ m') (lt_of_le_of_lt zero-le L.below) (≈-sym (shows t) (n ÷ m) L.value)
      (subst (λ (x : Time). shows x ≈ n' ÷ m') (sym e) L'.value),
  λ e. one_form n' m' m'-pos t t' (record { value = ≈-trans (shows t) (n ÷ m) (n' ÷ m') m-pos L.value e; below = L.below; apart = L.apart }) L',
)

pub lowest_same : (n m n' m' : ℕ) → 0 < m → 0 < m' → (lowest n m ≡ lowest n' m') ↔ (n ÷ m ≈ n' ÷ m')
lowest_same n m n' m' m-pos m'-pos = terms_same n m n' m' m-pos m'-pos (lowest n m) (lowest n' m') (lowest_is n m m-pos) (lowest_is n' m' m'-pos)

-- ---- whole times

pub whole_is : (n m : ℕ) → m ∣ n → LowestTerms n m (whole_time (n / m))
whole_is n m h = record { value = omega (arith, div-mul_cancel m h); below = zero-lt-suc 0; apart = λ k i j. le_of_dvd (zero-lt-suc 0) j }

-- "a whole time has remainder 0 and divisor 1"
pub terms_whole : (n m : ℕ) → 0 < m → m ∣ n → (t : Time) → LowestTerms n m t → t ≡ whole_time (n / m)
terms_whole n m m-pos h t L = one_form n m m-pos t (whole_time (n / m)) L (whole_is n m h)

pub lowest_whole : (n m : ℕ) → 0 < m → m ∣ n → lowest n m ≡ whole_time (n / m)
lowest_whole n m m-pos h = terms_whole n m m-pos h (lowest n m) (lowest_is n m m-pos)

-- and nothing else has remainder 0
pub remainder_zero : (n m : ℕ) (t : Time) → LowestTerms n m t → t.remainder ≡ 0 → t ≡ whole_time t.seconds
remainder_zero n m t T e =
    let d : t.divisor ≡ 1 = omega (arith, T.below, T.apart t.divisor (rw e (dvd-zero t.divisor)) (dvd_refl t.divisor)) in
    λ i. record { seconds = t.seconds; remainder = e i; divisor = d i }

pub lowest_zero : (m : ℕ) → 0 < m → lowest 0 m ≡ whole_time 0
lowest_zero m m-pos = lowest_whole 0 m m-pos (dvd-zero m) ∙ ap whole_time (zero-div m)

-- ---- sizes

pub seconds_le : (n m : ℕ) → (lowest n m).seconds ≤ n
seconds_le n zero = zero-le
seconds_le n (suc m) = div-le_self n (suc m)

pub remainder_le : (n m : ℕ) → (lowest n m).remainder ≤ m
remainder_le n zero = zero-le
remainder_le n (suc m) = omega (arith, div-le_self (n % suc m) (gcd (suc m) (n % suc m)), mod-lt n (zero-lt-suc m))

pub divisor_le : (n m : ℕ) → (lowest n m).divisor ≤ m
divisor_le n zero = zero-le
divisor_le n (suc m) = div-le_self (suc m) _

pub lowest_sized : (n m : ℕ) → SizedInstant (n ÷ m) → SizedTime (lowest n m)
lowest_sized n m h =
    record {
      seconds = lt_of_le_of_lt (seconds_le n m) h.n;
      remainder = lt_of_le_of_lt (remainder_le n m) h.m;
      divisor = lt_of_le_of_lt (divisor_le n m) h.m;
    }

-- ---- a shared factor may be taken out first

module _ (n m k : ℕ) (m-pos : 0 < m) (k-left : k ∣ n % m) (k-m : k ∣ m) where
  pub factor_out_pos : 0 < gcd (m / k) (n % m / k)
  factor_out_pos = gcd_pos (m / k) (n % m / k) (pos_of_dvd_of_pos (rw (div-mul_cancel k k-m) at (dvd-mul_right (m / k) k)) m-pos)

  gcd_out : gcd m (n % m) ≡ gcd (m / k) (n % m / k) * k
  gcd_out =
      ap₂ gcd (sym (div-mul_cancel k k-m)) (sym (div-mul_cancel k k-left))
      ∙ gcd_scale k (pos_of_dvd_of_pos k-m m-pos) (m / k) (n % m / k)

  part : (x : ℕ) → x / gcd m (n % m) ≡ x / k / gcd (m / k) (n % m / k)
  part x =
      ap (λ (g : ℕ). x / g) (gcd_out ∙ mul_comm (gcd (m / k) (n % m / k)) k)
      ∙ sym (div-div-eq-div-mul x k (gcd (m / k) (n % m / k)))

  pub factor_out : lowest n m ≡ record { seconds = n / m; remainder = n % m / k / gcd (m / k) (n % m / k); divisor = m / k / gcd (m / k) (n % m / k) }
  factor_out = lowest_reduced n m m-pos ∙ (λ i. record { seconds = n / m; remainder = part (n % m) i; divisor = part m i })
