-- The laws of ℤ that the kit's `lib.IntN` and `lib.Signed` lack: one certificate or one call of `omega` each. Assumes nothing.
use mathlib.Core.Path.{◌≡◌, refl, sym}
use mathlib.Core.Bool.{Bool, true, false, not}
use mathlib.Core.List.{[], ◌∷◌}
use mathlib.Core.Logic.{◌⊎◌, inl, inr, ⊎_elim}
use Prim.Native.Nat.{ℕ, ◌*◌, ◌<◌, ◌≤◌}
use native.Mathlib.Omega.{arith}
use lib.Dec.{T, T_not}
use lib.IntN.{ℤ, pos, negsuc, neg_ℤ, ◌-ℤ◌, ◌*ℤ◌, nat_abs}
use lib.Signed.{◌≤ℤ◌, ◌<ℤ◌, le_z, le_z_yes, ≤ℤ_refl, <ℤ_irrefl}
use Rattle.std.proofs.lemmas.Bool.{cases_lt}
use Rattle.integers.specs.Extremes.{max0, maxℤ, minℤ}
use Rattle.integers.proofs.Difference.{cond_by, as_difference, natural, negated, to_ℤ≤, to-ℤ≡, to_ℕ≤, parts≤, parts<, parts≡}
use Rattle.integers.proofs.Quotation.{quote}
use Rattle.integers.proofs.Certificates.{by≤, by<, gap≤, gap<, ◌⊞◌, ◌⊠◌, 0≤pos, split<, pos≤, nat≤}

-- ---- order: transitivity, antisymmetry
pub ≤ℤ_trans : {a b c : ℤ} → a ≤ℤ b → b ≤ℤ c → a ≤ℤ c
≤ℤ_trans {a} {b} {c} h k = to_ℤ≤ (as_difference a) (as_difference c) (omega (arith, parts≤))

pub ≤ℤ_antisym : {a b : ℤ} → a ≤ℤ b → b ≤ℤ a → a ≡ b
≤ℤ_antisym {a} {b} h k = to-ℤ≡ (as_difference a) (as_difference b) (omega (arith, parts≤))

pub ≤ℤ-of-≡ : {a b : ℤ} → a ≡ b → a ≤ℤ b
≤ℤ-of-≡ {a} {b} h = to_ℤ≤ (as_difference a) (as_difference b) (omega (arith, parts≡))

pub <ℤ_≤ℤ : {a b : ℤ} → a <ℤ b → a ≤ℤ b
<ℤ_≤ℤ {a} {b} h = to_ℤ≤ (as_difference a) (as_difference b) (omega (arith, parts<))

-- the two cases of an order of naturals: the library's, with that of ≤ first. (Its `either` says this too, but stands in `core`, which a crate that uses `std` can't name.)
pub split≤ : (m n : ℕ) → (m ≤ n) ⊎ (n < m)
split≤ m n = ⊎_elim inr inl (cases_lt n m)

-- ---- order and negation, and a positive factor
pub negℤ_mono : {a b : ℤ} → a ≤ℤ b → neg_ℤ b ≤ℤ neg_ℤ a
negℤ_mono {a} {b} h = by≤ [] (a ∷ b ∷ []) (gap≤ h) (λ v. search quote depth 20) tt

pub negℤ_cancel : {a b : ℤ} → neg_ℤ b ≤ℤ neg_ℤ a → a ≤ℤ b
negℤ_cancel {a} {b} h = by≤ [] (a ∷ b ∷ []) (gap≤ h) (λ v. search quote depth 20) tt

-- y - x is k times b - a, with k positive: the two differences have one sign
module _ {a b x y : ℤ} (k : ℤ) (p : pos 0 <ℤ k) (e : y -ℤ x ≡ k *ℤ (b -ℤ a)) where
  pub times< : a <ℤ b → x <ℤ y
  times< h = by< [] (a ∷ b ∷ x ∷ y ∷ k ∷ []) (gap< p ⊠ gap< h ⊞ gap< h ⊞ gap< p ⊞ gap≤ (≤ℤ-of-≡ (sym e))) (λ v. search quote depth 20) tt

  pub over< : x <ℤ y → a <ℤ b
  over< h = ⊎_elim (λ l. l)
      (λ (l : b ≤ℤ a). absurd (<ℤ_irrefl {a = pos 0} (by< [] (a ∷ b ∷ x ∷ y ∷ k ∷ []) (gap< p ⊠ gap≤ l ⊞ gap≤ l ⊞ gap< h ⊞ gap≤ (≤ℤ-of-≡ e)) (λ v. search quote depth 20) tt)))
      (split< a b)

-- ---- two tests that follow from each other are one
pub same_test : (a b : Bool) → (T a → T b) → (T b → T a) → a ≡ b
same_test true true f g = refl
same_test true false f g = absurd (f tt)
same_test false true f g = absurd (g tt)
same_test false false f g = refl

-- ---- the larger of 0 and a number
pub max0_ge : (z : ℤ) → z ≤ℤ pos (max0 z)
max0_ge (pos n) = pos≤ (omega arith)
max0_ge (negsuc n) = le_z_yes tt

-- where it is not 0 it is the number itself, and so where the number is not negative
pub max0_is : (z : ℤ) → 0 < max0 z → pos (max0 z) ≡ z
max0_is (pos n) h = refl
max0_is (negsuc n) h = absurd (omega arith)

pub max0_same : (z : ℤ) → pos 0 ≤ℤ z → pos (max0 z) ≡ z
max0_same (pos n) h = refl
max0_same (negsuc n) h = absurd h.le

pub max0_none : (z : ℤ) → z ≤ℤ pos 0 → max0 z ≡ 0
max0_none (pos n) h = omega (arith, nat≤ {m = n} {n = 0} h)
max0_none (negsuc n) h = refl

pub max0_le : (z : ℤ) (n : ℕ) → z ≤ℤ pos n → max0 z ≤ n
max0_le (pos k) n h = nat≤ h
max0_le (negsuc k) n h = omega arith

pub max0_size : (z : ℤ) → max0 z ≤ nat_abs z
max0_size (pos n) = omega arith
max0_size (negsuc n) = omega arith

pub max0_scale : (z : ℤ) (m k : ℕ) → (z *ℤ pos m) ≤ℤ pos k → max0 z * m ≤ k
max0_scale (pos n) m k h = nat≤ {m = n * m} {n = k} h
max0_scale (negsuc n) m k h = omega arith

-- ---- the larger and the smaller of two
module _ (x y : ℤ) where
  not_le : T (not (le_z x y)) → y ≤ℤ x
  not_le t = ⊎_elim (λ h. <ℤ_≤ℤ h) (λ (h : x ≤ℤ y). absurd (T_not (le_z x y) t h.le)) (split< y x)

  pub maxℤ_left : x ≤ℤ maxℤ x y
  maxℤ_left = cond_by (le_z x y) y x (λ z. x ≤ℤ z) (λ t. le_z_yes t) (λ t. ≤ℤ_refl x)

  pub maxℤ_right : y ≤ℤ maxℤ x y
  maxℤ_right = cond_by (le_z x y) y x (λ z. y ≤ℤ z) (λ t. ≤ℤ_refl y) not_le

  pub minℤ_left : minℤ x y ≤ℤ x
  minℤ_left = cond_by (le_z x y) x y (λ z. z ≤ℤ x) (λ t. ≤ℤ_refl x) not_le

  pub minℤ_right : minℤ x y ≤ℤ y
  minℤ_right = cond_by (le_z x y) x y (λ z. z ≤ℤ y) (λ t. le_z_yes t) (λ t. ≤ℤ_refl y)

-- what the larger of two is above one of them
pub maxℤ_above : (x y : ℤ) (n : ℕ) → (x -ℤ y) ≤ℤ pos n → max0 (maxℤ x y -ℤ y) ≤ n
maxℤ_above x y n h = max0_le (maxℤ x y -ℤ y) n (cond_by (le_z x y) y x (λ z. (z -ℤ y) ≤ℤ pos n) (λ t. by≤ (n ∷ []) (y ∷ []) (0≤pos n) (λ v. search quote depth 20) tt) (λ t. h))

-- ---- |z| ≤ k is -k ≤ z ≤ k
pub nat_abs_hi : (z : ℤ) (k : ℕ) → nat_abs z ≤ k → z ≤ℤ pos k
nat_abs_hi (pos n) k h = pos≤ h
nat_abs_hi (negsuc n) k h = le_z_yes tt

pub nat_abs_lo : (z : ℤ) (k : ℕ) → nat_abs z ≤ k → neg_ℤ (pos k) ≤ℤ z
nat_abs_lo (pos n) k h = to_ℤ≤ (negated (natural k)) (natural n) (omega arith)
nat_abs_lo (negsuc n) k h = to_ℤ≤ (negated (natural k)) (as_difference (negsuc n)) (omega arith)

pub nat_abs_in : (z : ℤ) (k : ℕ) → neg_ℤ (pos k) ≤ℤ z → z ≤ℤ pos k → nat_abs z ≤ k
nat_abs_in (pos n) k l h = nat≤ h
nat_abs_in (negsuc n) k l h = omega (arith, to_ℕ≤ l (negated (natural k)) (as_difference (negsuc n)))
