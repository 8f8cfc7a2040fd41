-- Floats that are whole numbers up to 2⁵³: their products and sums are exact, and a sum whose last summand is the float of a whole number is the float of
-- the total, so that no −0 comes out. Assumes nothing.
use mathlib.Core.Path.{◌≡◌, refl, sym, ap, ap₂, subst, ◌∙◌}
use mathlib.Core.Bool.{Bool, true, false, cond, ◌&&◌, beq}
use Prim.Native.Nat.{ℕ, zero, suc, ◌+◌, ◌-◌, ◌*◌, ◌^◌, ◌≤◌, ◌<◌}
use native.Mathlib.Nat.{mul-one, mul_assoc, mul_comm, mul-pos, mul-mul-mul_comm, add-mul, zero-mul, mul-zero, mul-sub, mul-lt-mul_of_pos_right, mul-le-mul_right}
use native.Mathlib.Omega.{arith}
use lib.Dec.{T, ltb, lit≤, le→leb, lt→ltb}
use lib.IntN.{ℤ, pos, negsuc, neg_ℤ, nat_abs, ◌+ℤ◌, ◌*ℤ◌, neg_ℤ-+ℤ, +ℤ_comm}
use lib.Ieee.{Float, nan, inf, fin, binary64, up, down, unlike, round, mul, add, sum, of_int, in_float, fits}
use lib.Ieee.Exact.{HasValue}
use lib.Ieee.Fits.{down_pos, add-fits, of_int-fits}
use lib.Ieee.Back.{round_whole, whole_unique}
use lib.Ieee.Scale.{round_same}
use borrow.Author.Tests.{ltb-true, ltb-false, lt-ltb, le-ltb}
use Rattle.screen.specs.Floats.{float, signed, Exactly}

-- ---- a fraction that is a whole number is rounded to that number
round_at : (s : Bool) (num den n : ℕ) → 0 < den → num ≡ n * den → n ≤ 2 ^ 53 → HasValue (round binary64 s num den) s n 1
round_at s num den n h e small =
    subst (λ (x : Float). HasValue x s n 1) (sym (round_same binary64 s num den n 1 h (lit≤ tt) (mul-one num ∙ e))) (round_whole binary64 s n small)

-- ---- products
product_at : (x y : Float) (s t : Bool) (a b : ℕ) → HasValue x s a 1 → HasValue y t b 1 → a * b ≤ 2 ^ 53 → HasValue (mul binary64 x y) (unlike s t) (a * b) 1
unfolding mul
product_at nan y s t a b p q small = absurd p
product_at (inf u) y s t a b p q small = absurd p
product_at (fin u m e) nan s t a b p q small = absurd q
product_at (fin u m e) (inf v) s t a b p q small = absurd q
product_at (fin u m e) (fin v n d) s t a b p q small =
    let den = down e * down d in
    let pe : m * up e ≡ a * down e = sym (mul-one (m * up e)) ∙ p.1 in
    let qe : n * up d ≡ b * down d = sym (mul-one (n * up d)) ∙ q.1 in
    let num : m * up e * (n * up d) ≡ a * b * den = ap₂ (λ (x y : ℕ). x * y) pe qe ∙ mul-mul-mul_comm a (down e) b (down d) in
    subst (λ (w : Bool). HasValue (round binary64 w (m * up e * (n * up d)) den) (unlike s t) (a * b) 1) (sym (ap₂ unlike p.0 q.0))
    (round_at (unlike s t) (m * up e * (n * up d)) den (a * b) (mul-pos (down_pos e) (down_pos d)) num small)

no_sign : (n : ℕ) → n ≡ 0 → neg_ℤ (pos n) ≡ pos n
no_sign n e = rw e refl

signed_product : (s t : Bool) (a b : ℕ) → signed (unlike s t) (a * b) ≡ signed s a *ℤ signed t b
signed_product true true zero b = ap pos (zero-mul b) ∙ nothing b
  where
    nothing : (b : ℕ) → pos 0 ≡ pos 0 *ℤ neg_ℤ (pos b)
    nothing zero = refl
    nothing (suc b) = sym (ap (λ (x : ℕ). neg_ℤ (pos x)) (zero-mul (suc b)))
signed_product true true (suc a) zero = ap pos (mul-zero (suc a)) ∙ sym (ap (λ (x : ℕ). neg_ℤ (pos x)) (mul-zero (suc a)))
signed_product true true (suc a) (suc b) = refl
signed_product true false zero b = no_sign (0 * b) (zero-mul b)
signed_product true false (suc a) b = refl
signed_product false true a zero = no_sign (a * 0) (mul-zero a)
signed_product false true a (suc b) = refl
signed_product false false a b = refl

-- ---- sums
-- (the library's `sub-mul` is of a ring, where b + (a − b) is a; naturals have `mul-sub` alone)
difference_times : (a b c : ℕ) → (a - b) * c ≡ a * c - b * c
difference_times a b c = mul_comm (a - b) c ∙ mul-sub c a b ∙ ap₂ (λ (x y : ℕ). x - y) (mul_comm c a) (mul_comm c b)

times_ltb : (a b c : ℕ) → 0 < c → ltb (a * c) (b * c) ≡ ltb a b
times_ltb a b c h = go (ltb a b) refl
  where
    go : (t : Bool) → ltb a b ≡ t → ltb (a * c) (b * c) ≡ t
    go true e = lt-ltb (a * c) (b * c) (mul-lt-mul_of_pos_right (ltb-true a b e) h)
    go false e = le-ltb (a * c) (b * c) (mul-le-mul_right c (ltb-false a b e))

-- the sign and the size of a sum
abbrev sum_sign : Bool → ℕ → Bool → ℕ → Bool
sum_sign s a t b = cond (beq s t) s (cond (ltb a b) t (s && ltb b a))

abbrev sum_size : Bool → ℕ → Bool → ℕ → ℕ
sum_size s a t b = cond (beq s t) (a + b) (cond (ltb a b) (b - a) (a - b))

sum_over : (s t : Bool) (a b c : ℕ) → 0 < c → a + b ≤ 2 ^ 53 → HasValue (sum binary64 s (a * c) t (b * c) c) (sum_sign s a t b) (sum_size s a t b) 1
unfolding sum
sum_over s t a b c h small = go (beq s t) (ltb a b) refl
  where
    minus : (r : Bool) (x y : ℕ) → x ≤ a + b → HasValue (round binary64 r (x * c - y * c) c) r (x - y) 1
    minus r x y l = round_at r (x * c - y * c) c (x - y) h (sym (difference_times x y c)) (omega arith)

    go : (e l : Bool) → ltb a b ≡ l
        → HasValue (cond e (round binary64 s (a * c + b * c) c) (cond (ltb (a * c) (b * c)) (round binary64 t (b * c - a * c) c) (round binary64 (s && ltb (b * c) (a * c)) (a * c - b * c) c)))
        (cond e s (cond (ltb a b) t (s && ltb b a))) (cond e (a + b) (cond (ltb a b) (b - a) (a - b))) 1
    go true l i = round_at s (a * c + b * c) c (a + b) h (sym (add-mul a b c)) small
    go false true i = rw (times_ltb a b c h, i) (minus t b a (omega arith))
    go false false i = rw (times_ltb a b c h, times_ltb b a c h, i) (minus (s && ltb b a) a b (omega arith))

sum_at : (x y : Float) (s t : Bool) (a b : ℕ) → HasValue x s a 1 → HasValue y t b 1 → a + b ≤ 2 ^ 53 → HasValue (add binary64 x y) (sum_sign s a t b) (sum_size s a t b) 1
unfolding add
sum_at nan y s t a b p q small = absurd p
sum_at (inf u) y s t a b p q small = absurd p
sum_at (fin u m e) nan s t a b p q small = absurd q
sum_at (fin u m e) (inf v) s t a b p q small = absurd q
sum_at (fin u m e) (fin v n d) s t a b p q small =
    let den = down e * down d in
    let pe : m * up e * down d ≡ a * den = ap (λ (x : ℕ). x * down d) (sym (mul-one (m * up e)) ∙ p.1) ∙ mul_assoc a (down e) (down d) in
    let qe : n * up d * down e ≡ b * den = ap (λ (x : ℕ). x * down e) (sym (mul-one (n * up d)) ∙ q.1) ∙ mul_assoc b (down d) (down e) ∙ ap (λ (x : ℕ). b * x) (mul_comm (down d) (down e)) in
    rw (pe, qe, p.0, q.0) (sum_over s t a b den (mul-pos (down_pos e) (down_pos d)) small)

difference : (a b : ℕ) → signed (cond (ltb a b) true false) (cond (ltb a b) (b - a) (a - b)) ≡ pos a +ℤ neg_ℤ (pos b)
difference a zero = rw (le-ltb a 0 (omega arith)) (ap pos (omega arith))
difference a (suc b) = go (ltb a (suc b)) refl
  where
    go : (l : Bool) → ltb a (suc b) ≡ l → signed (cond l true false) (cond l (suc b - a) (a - suc b)) ≡ cond l (negsuc (suc b - suc a)) (pos (a - suc b))
    go true e = ap (λ (n : ℕ). neg_ℤ (pos n)) (step (ltb-true a (suc b) e))
      where
        step : a < suc b → suc b - a ≡ suc (suc b - suc a)
        step h = omega arith
    go false e = refl

turned : (a b : ℕ) → signed (cond (ltb a b) false (ltb b a)) (cond (ltb a b) (b - a) (a - b)) ≡ pos b +ℤ neg_ℤ (pos a)
turned a b = go (ltb a b) (ltb b a) refl refl ∙ difference b a
  where
    go : (l r : Bool) → ltb a b ≡ l → ltb b a ≡ r → signed (cond (ltb a b) false (ltb b a)) (cond (ltb a b) (b - a) (a - b)) ≡ signed (cond (ltb b a) true false) (cond (ltb b a) (a - b) (b - a))
    go true true p q = absurd (clash (ltb-true a b p) (ltb-true b a q))
      where
        clash : a < b → b < a → ⊥
        clash h k = omega arith
    go true false p q = rw (p, q) refl
    go false true p q = rw (p, q) refl
    go false false p q = rw (p, q) (ap pos (level (ltb-false a b p) (ltb-false b a q)))
      where
        level : b ≤ a → a ≤ b → a - b ≡ b - a
        level h k = omega arith

signed_sum : (s t : Bool) (a b : ℕ) → signed (sum_sign s a t b) (sum_size s a t b) ≡ signed s a +ℤ signed t b
signed_sum true true a b = neg_ℤ-+ℤ (pos a) (pos b)
signed_sum true false a b = turned a b ∙ +ℤ_comm (pos b) (neg_ℤ (pos a))
signed_sum false true a b = difference a b
signed_sum false false a b = refl

-- ---- sizes
signed_size : (s : Bool) (n : ℕ) → nat_abs (signed s n) ≡ n
signed_size true zero = refl
signed_size true (suc n) = refl
signed_size false n = refl

exact_size : {x : Float} {z : ℤ} → (p : Exactly x z) → p.size ≡ nat_abs z
exact_size p = sym (signed_size p.sign p.size) ∙ ap nat_abs p.whole

-- ---- the float of a whole number
pub float_exact : (z : ℤ) → nat_abs z ≤ 2 ^ 53 → Exactly (float z) z
unfolding of_int
float_exact (pos n) h = record { sign = false; size = n; value = round_whole binary64 false n h; whole = refl }
float_exact (negsuc n) h = record { sign = true; size = suc n; value = round_whole binary64 true (suc n) h; whole = refl }

-- of 0 it is +0
pub float_zero : float (pos 0) ≡ fin false 0 (pos 0)
unfolding of_int
float_zero = refl

-- (docs/PORT.md names it: no proof cites it.)
pub cast_exact : (z : ℤ) → nat_abs z ≤ 2 ^ 53 → T (in_float binary64 z)
unfolding in_float
cast_exact (pos n) h = le→leb n (2 ^ 53) h
cast_exact (negsuc n) h = lt→ltb n (2 ^ 53) h

pub product_exact : {x y : Float} {z w : ℤ} → Exactly x z → Exactly y w → nat_abs z * nat_abs w ≤ 2 ^ 53 → Exactly (mul binary64 x y) (z *ℤ w)
product_exact {x} {y} p q h = record {
  sign = unlike p.sign q.sign;
  size = p.size * q.size;
  value = product_at x y p.sign q.sign p.size q.size p.value q.value (rw (exact_size p, exact_size q) h);
  whole = signed_product p.sign q.sign p.size q.size ∙ ap₂ (λ (a b : ℤ). a *ℤ b) p.whole q.whole;
}

-- ---- a zero with a plus sign is the float of 0: signs and sizes that a whole number has
abbrev Proper : Bool → ℕ → Type 0
Proper true n = 0 < n
Proper false n = Unit {0}

proper_float : (x : Float) (s : Bool) (n : ℕ) → T (fits binary64 x) → HasValue x s n 1 → n ≤ 2 ^ 53 → Proper s n → x ≡ float (signed s n)
unfolding of_int
proper_float x true zero f v l p = absurd (omega arith)
proper_float x true (suc n) f v l p = whole_unique binary64 x (float (negsuc n)) true (suc n) f (of_int-fits binary64 (negsuc n)) v (round_whole binary64 true (suc n) l)
proper_float x false n f v l p = whole_unique binary64 x (float (pos n)) false n f (of_int-fits binary64 (pos n)) v (round_whole binary64 false n l)

-- where the second summand is proper, so is the sum
proper_sum : (s t : Bool) (a b : ℕ) → Proper t b → Proper (sum_sign s a t b) (sum_size s a t b)
proper_sum true true a b p = omega arith
proper_sum false false a b p = tt
proper_sum true false a b p = go (ltb a b) (ltb b a) refl
  where
    go : (l r : Bool) → ltb b a ≡ r → Proper (cond l false r) (cond l (b - a) (a - b))
    go true r e = tt
    go false true e = let h = ltb-true b a e in omega arith
    go false false e = tt
proper_sum false true a b p = go (ltb a b) refl
  where
    go : (l : Bool) → ltb a b ≡ l → Proper (cond l true false) (cond l (b - a) (a - b))
    go true e = let h = ltb-true a b e in omega arith
    go false e = tt

float_proper : (z : ℤ) (h : nat_abs z ≤ 2 ^ 53) → Proper (float_exact z h).sign (float_exact z h).size
unfolding float_exact
float_proper (pos n) h = tt
float_proper (negsuc n) h = omega arith

size_within : (s t : Bool) (a b : ℕ) → sum_size s a t b ≤ a + b
size_within s t a b = go (beq s t) (ltb a b)
  where
    go : (e l : Bool) → cond e (a + b) (cond l (b - a) (a - b)) ≤ a + b
    go true l = omega arith
    go false true = omega arith
    go false false = omega arith

pub sum_float : {x : Float} {z : ℤ} (w : ℤ) → Exactly x z → nat_abs z + nat_abs w ≤ 2 ^ 53 → add binary64 x (float w) ≡ float (z +ℤ w)
sum_float {x} {z} w p h =
    let small : nat_abs w ≤ 2 ^ 53 = omega arith in
    let q = float_exact w small in
    let l : p.size + q.size ≤ 2 ^ 53 = rw (exact_size p, exact_size q) h in
    let v = sum_at x (float w) p.sign q.sign p.size q.size p.value q.value l in
    proper_float (add binary64 x (float w)) _ _ (add-fits binary64 x (float w)) v (omega (arith, size_within p.sign q.sign p.size q.size)) (proper_sum p.sign q.sign p.size q.size (float_proper w small))
    ∙ ap float (signed_sum p.sign q.sign p.size q.size ∙ ap₂ (λ (a b : ℤ). a +ℤ b) p.whole q.whole)
