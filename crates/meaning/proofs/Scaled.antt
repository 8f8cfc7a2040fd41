-- A gap is of a fraction's value: it is the same of two fractions that are equal. Assumes nothing.
use Rattle.std.proofs.Math.Nat.{div-div-eq-div-mul, mul-div_left}
use Rattle.std.proofs.Math.Facts.{eqb_yes, yes_eqb}
use mathlib.Core.Path.{◌≡◌, refl, sym, ap, ap₂, ◌∙◌}
use mathlib.Core.Bool.{Bool, cond, ◌&&◌}
use mathlib.Core.List.{[], ◌∷◌}
use mathlib.Core.Logic.{⊎_elim}
use Prim.Native.Nat.{ℕ, zero, suc, ◌+◌, ◌*◌, ◌<◌, ◌≤◌}
use native.Mathlib.Nat.{mul-le-mul_right, le_of_mul-le-mul_right}
use native.Mathlib.Omega.{arith}
use lib.Dec.{leb, ltb, eqb, ltb→lt, lt→ltb}
use lib.IntN.{ℤ, pos, negsuc, neg_ℤ, ◌-ℤ◌, ◌*ℤ◌, nat_abs}
use lib.Signed.{lt_z, lt_z_yes}
use Rattle.std.specs.Prelude.{◌/◌, None, Some}
use Rattle.integers.proofs.Quotation.{quote}
use Rattle.integers.proofs.Certificates.{ring, pos<}
use Rattle.integers.proofs.Laws.{split≤, times<, over<, same_test}
use Rattle.meaning.specs.declared.gaps.Direction.TheVariants.{Above, Below}
use Rattle.meaning.specs.declared.gaps.Nearness.TheVariants.{Closer, Edge, Farther}
use Rattle.meaning.specs.Gaps.{direction_of, nearness_of, nearest_tenths, tenths_of, gap_of}

-- ---- naturals times a positive number
module _ (x y i : ℕ) (p : 0 < i) where
  less_up : x < y → x * i < y * i
  less_up h = let l : suc x ≤ y = omega arith in omega (arith, mul-le-mul_right i l)

  less_down : x * i < y * i → x < y
  less_down h = ⊎_elim (λ (l : y ≤ x). absurd (omega (arith, mul-le-mul_right i l))) (λ l. l) (split≤ y x)

  same_down : x * i ≡ y * i → x ≡ y
  same_down e = omega (arith, le_of_mul-le-mul_right {m = x} {n = y} {k = i} (omega (arith, e)) p, le_of_mul-le-mul_right {m = y} {n = x} {k = i} (omega (arith, e)) p)

  less_test : ltb (x * i) (y * i) ≡ ltb x y
  less_test = same_test (ltb (x * i) (y * i)) (ltb x y)
      (λ t. lt→ltb x y (less_down (ltb→lt (x * i) (y * i) t)))
      (λ t. lt→ltb (x * i) (y * i) (less_up (ltb→lt x y t)))

  equal_test : eqb (x * i) (y * i) ≡ eqb x y
  equal_test = same_test (eqb (x * i) (y * i)) (eqb x y)
      (λ t. yes_eqb (same_down (eqb_yes t)))
      (λ t. yes_eqb (ap (λ (n : ℕ). n * i) (eqb_yes t)))

-- ---- integers
size_negated : (n : ℕ) → nat_abs (neg_ℤ (pos n)) ≡ n
size_negated zero = refl
size_negated (suc n) = omega arith

size_scaled : (g : ℤ) (i : ℕ) → nat_abs (g *ℤ pos i) ≡ nat_abs g * i
size_scaled (pos n) i = refl
size_scaled (negsuc n) i = size_negated (suc n * i)

same_order : (a b x y : ℤ) (i : ℕ) → 0 < i → y -ℤ x ≡ pos i *ℤ (b -ℤ a) → lt_z x y ≡ lt_z a b
same_order a b x y i p e =
    same_test (lt_z x y) (lt_z a b)
    (λ t. (over< {a = a} {b = b} {x = x} {y = y} (pos i) (pos< p) e (lt_z_yes t)).lt)
    (λ t. (times< {a = a} {b = b} {x = x} {y = y} (pos i) (pos< p) e (lt_z_yes t)).lt)

-- ---- the parts of a gap, of g/d as of (g × i)/(d × i)
module _ (g : ℤ) (d i : ℕ) (p : 0 < i) where
  above_scaled : lt_z (pos 0) (g *ℤ pos i) ≡ lt_z (pos 0) g
  above_scaled =
      let e : g *ℤ pos i -ℤ pos 0 ≡ pos i *ℤ (g -ℤ pos 0) = ring (i ∷ []) (g ∷ []) (λ v. search quote depth 20) tt in
      same_order (pos 0) g (pos 0) (g *ℤ pos i) i p e

  below_scaled : lt_z (g *ℤ pos i) (pos 0) ≡ lt_z g (pos 0)
  below_scaled =
      let e : pos 0 -ℤ g *ℤ pos i ≡ pos i *ℤ (pos 0 -ℤ g) = ring (i ∷ []) (g ∷ []) (λ v. search quote depth 20) tt in
      same_order g (pos 0) (g *ℤ pos i) (pos 0) i p e

  direction_scaled : direction_of (g *ℤ pos i) ≡ direction_of g
  direction_scaled = ap₂ (λ (x y : Bool). cond x (Some Above) (cond y (Some Below) None)) above_scaled below_scaled

  quotient_scaled : (x : ℕ) → x * i / (6 * (d * i)) ≡ x / (6 * d)
  quotient_scaled x =
      let divisor : 6 * (d * i) ≡ i * (6 * d) = omega arith in
      ap (λ (n : ℕ). x * i / n) divisor
      ∙ sym (div-div-eq-div-mul (x * i) i (6 * d))
      ∙ ap (λ (n : ℕ). n / (6 * d)) (mul-div_left x p)

  nearest_scaled : (x : ℕ) → nearest_tenths (x * i) (d * i) ≡ nearest_tenths x d
  nearest_scaled x =
      let sum : x * i + 3 * (d * i) ≡ (x + 3 * d) * i = omega arith in
      ap (λ (n : ℕ). n / (6 * (d * i))) sum ∙ quotient_scaled (x + 3 * d)

  tenths_scaled : (k : ℕ) → tenths_of (nat_abs (g *ℤ pos i)) (d * i) k ≡ tenths_of (nat_abs g) d k
  tenths_scaled k =
      let x = nat_abs g in
      let half : k * (d * i) ≡ k * d * i = omega arith in
      let near : ltb (x * i) (k * (d * i)) ≡ ltb x (k * d) = ap (ltb (x * i)) half ∙ less_test x (k * d) i p in
      ap (λ (n : ℕ). tenths_of n (d * i) k) (size_scaled g i)
      ∙ ap₂ (λ (l : Bool) (n : ℕ). cond (l && leb k (6 * n)) (x * i / (6 * (d * i))) n) near (nearest_scaled x)
      ∙ ap (λ (n : ℕ). cond (ltb x (k * d) && leb k (6 * nearest_tenths x d)) n (nearest_tenths x d)) (quotient_scaled x)

  nearness_scaled : (k : ℕ) → nearness_of (nat_abs (g *ℤ pos i)) (k * (d * i)) ≡ nearness_of (nat_abs g) (k * d)
  nearness_scaled k =
      let x = nat_abs g in
      let half : k * (d * i) ≡ k * d * i = omega arith in
      ap₂ nearness_of (size_scaled g i) half
      ∙ ap₂ (λ (l e : Bool). cond l Closer (cond e Edge Farther)) (less_test x (k * d) i p) (equal_test x (k * d) i p)

  gap_scaled : (k : ℕ) → gap_of (g *ℤ pos i) (d * i) k ≡ gap_of g d k
  gap_scaled k = λ j. record { direction = direction_scaled j; tenths = tenths_scaled k j; nearness = nearness_scaled k j }

-- g/d and g'/d' are one fraction
pub same_gap : (g g' : ℤ) (d d' k : ℕ) → 0 < d → 0 < d' → g *ℤ pos d' ≡ g' *ℤ pos d → gap_of g d k ≡ gap_of g' d' k
same_gap g g' d d' k p p' e =
    sym (gap_scaled g d d' p' k)
    ∙ ap₂ (λ (x : ℤ) (y : ℕ). gap_of x y k) e (omega arith)
    ∙ gap_scaled g' d' d p k
