-- Each integer is a difference of two naturals, so that `omega`, which reads ℕ alone, decides linear facts of ℤ. Assumes nothing.
use mathlib.Core.Path.{◌≡◌, refl, ap, subst}
use mathlib.Core.Bool.{Bool, true, false, not, cond}
use Prim.Native.Nat.{ℕ, zero, suc, ◌+◌, ◌*◌, ◌-◌, ◌<◌, ◌≤◌}
use native.Mathlib.Omega.{arith}
use lib.Dec.{T, ltb, leb→le, le→leb, ltb→lt, lt→ltb, nltb→le}
use lib.IntN.{ℤ, pos, negsuc, neg_ℤ, sub_ℕ, ◌+ℤ◌, ◌*ℤ◌}
use lib.Signed.{◌≤ℤ◌, ◌<ℤ◌}
use Rattle.integers.specs.Extremes.{max0}

-- z is max0 z - negPart z
abbrev pub neg_part : ℤ → ℕ
neg_part (pos n) = 0
neg_part (negsuc n) = suc n

-- ---- sum, negation and product, in these parts

-- what holds of both values holds of the one that a test picks
pub cond_by : {A : Type 0} (c : Bool) (x y : A) (X : A → Type 0) → (T c → X x) → (T (not c) → X y) → X (cond c x y)
cond_by true x y X f g = f tt
cond_by false x y X f g = g tt

subtracted_parts : (a b : ℕ) → max0 (sub_ℕ a b) + b ≡ a + neg_part (sub_ℕ a b)
subtracted_parts a b = cond_by (ltb a b) (negsuc (b - suc a)) (pos (a - b)) (λ z. max0 z + b ≡ a + neg_part z) (λ t. omega (arith, ltb→lt a b t)) (λ t. omega (arith, nltb→le a b t))

pub sum_parts : (x y : ℤ) → max0 (x +ℤ y) + (neg_part x + neg_part y) ≡ (max0 x + max0 y) + neg_part (x +ℤ y)
sum_parts (pos a) (pos b) = omega arith
sum_parts (pos a) (negsuc b) = omega (arith, subtracted_parts a (suc b))
sum_parts (negsuc a) (pos b) = omega (arith, subtracted_parts b (suc a))
sum_parts (negsuc a) (negsuc b) = omega arith

pub negated_parts : (x : ℤ) → max0 (neg_ℤ x) + max0 x ≡ neg_part x + neg_part (neg_ℤ x)
negated_parts (pos zero) = omega arith
negated_parts (pos (suc n)) = omega arith
negated_parts (negsuc n) = omega arith

negated_natural_parts : (k : ℕ) → max0 (neg_ℤ (pos k)) + k ≡ neg_part (neg_ℤ (pos k))
negated_natural_parts zero = omega arith
negated_natural_parts (suc n) = omega arith

pub product_parts : (x y : ℤ) → max0 (x *ℤ y) + (max0 x * neg_part y + neg_part x * max0 y) ≡ (max0 x * max0 y + neg_part x * neg_part y) + neg_part (x *ℤ y)
product_parts (pos a) (pos b) = omega arith
product_parts (pos a) (negsuc b) = omega (arith, negated_natural_parts (a * suc b))
product_parts (negsuc a) (pos b) = omega (arith, negated_natural_parts (suc a * b))
product_parts (negsuc a) (negsuc b) = omega arith

-- ---- orders and equality are those of ℕ, crosswise

pub parts≤ : (x y : ℤ) → x ≤ℤ y → max0 x + neg_part y ≤ max0 y + neg_part x
parts≤ (pos a) (pos b) h = omega (arith, leb→le a b h.le)
parts≤ (pos a) (negsuc b) h = absurd h.le
parts≤ (negsuc a) (pos b) h = omega arith
parts≤ (negsuc a) (negsuc b) h = omega (arith, leb→le b a h.le)

pub from_parts≤ : (x y : ℤ) → max0 x + neg_part y ≤ max0 y + neg_part x → x ≤ℤ y
from_parts≤ (pos a) (pos b) h = record { le = le→leb a b (omega arith) }
from_parts≤ (pos a) (negsuc b) h = absurd (omega arith)
from_parts≤ (negsuc a) (pos b) h = record { le = tt }
from_parts≤ (negsuc a) (negsuc b) h = record { le = le→leb b a (omega arith) }

pub parts< : (x y : ℤ) → x <ℤ y → max0 x + neg_part y < max0 y + neg_part x
parts< (pos a) (pos b) h = omega (arith, ltb→lt a b h.lt)
parts< (pos a) (negsuc b) h = absurd h.lt
parts< (negsuc a) (pos b) h = omega arith
parts< (negsuc a) (negsuc b) h = omega (arith, ltb→lt b a h.lt)

pub from_parts< : (x y : ℤ) → max0 x + neg_part y < max0 y + neg_part x → x <ℤ y
from_parts< (pos a) (pos b) h = record { lt = lt→ltb a b (omega arith) }
from_parts< (pos a) (negsuc b) h = absurd (omega arith)
from_parts< (negsuc a) (pos b) h = record { lt = tt }
from_parts< (negsuc a) (negsuc b) h = record { lt = lt→ltb b a (omega arith) }

pub from-parts≡ : (x y : ℤ) → max0 x + neg_part y ≡ max0 y + neg_part x → x ≡ y
from-parts≡ (pos a) (pos b) h = ap pos (omega arith)
from-parts≡ (pos a) (negsuc b) h = absurd (omega arith)
from-parts≡ (negsuc a) (pos b) h = absurd (omega arith)
from-parts≡ (negsuc a) (negsuc b) h = ap negsuc (omega arith)

pub parts≡ : (x y : ℤ) → x ≡ y → max0 x + neg_part y ≡ max0 y + neg_part x
parts≡ x y e = subst (λ (t : ℤ). max0 x + neg_part t ≡ max0 t + neg_part x) e refl

-- ---- z as a difference of two naturals, found by `search differences`

pub record Difference (z : ℤ) : Type 0 where
  pub plus : ℕ
  pub minus : ℕ
  pub same : max0 z + minus ≡ plus + neg_part z

pub sum_same : {a b : ℤ} (x : Difference a) (y : Difference b) → max0 (a +ℤ b) + (x.minus + y.minus) ≡ (x.plus + y.plus) + neg_part (a +ℤ b)
sum_same {a} {b} x y = omega (arith, sum_parts a b, x.same, y.same)

pub negated_same : {a : ℤ} (x : Difference a) → max0 (neg_ℤ a) + x.plus ≡ x.minus + neg_part (neg_ℤ a)
negated_same {a} x = omega (arith, negated_parts a, x.same)

product_linear : (pa na pb nb xp xn yp yn r s : ℕ) → pa + xn ≡ xp + na → pb + yn ≡ yp + nb → r + (pa * nb + na * pb) ≡ (pa * pb + na * nb) + s → r + (xp * yn + xn * yp) ≡ (xp * yp + xn * yn) + s
product_linear pa na pb nb xp xn yp yn r s e f g = omega (arith, ap (λ (t : ℕ). t * yp) e, ap (λ (t : ℕ). t * yn) e, ap (λ (t : ℕ). pa * t) f, ap (λ (t : ℕ). na * t) f)

pub product_same : {a b : ℤ} (x : Difference a) (y : Difference b) → max0 (a *ℤ b) + (x.plus * y.minus + x.minus * y.plus) ≡ (x.plus * y.plus + x.minus * y.minus) + neg_part (a *ℤ b)
product_same {a} {b} x y = product_linear (max0 a) (neg_part a) (max0 b) (neg_part b) x.plus x.minus y.plus y.minus (max0 (a *ℤ b)) (neg_part (a *ℤ b)) x.same y.same (product_parts a b)

abbrev pub as_difference : (z : ℤ) → Difference z
as_difference z = record { plus = max0 z; minus = neg_part z; same = refl }

abbrev pub natural : (k : ℕ) → Difference (pos k)
natural k = record { plus = k; minus = 0; same = refl }

abbrev pub sum : {a b : ℤ} → Difference a → Difference b → Difference (a +ℤ b)
sum x y = record { plus = x.plus + y.plus; minus = x.minus + y.minus; same = sum_same x y }

abbrev pub negated : {a : ℤ} → Difference a → Difference (neg_ℤ a)
negated x = record { plus = x.minus; minus = x.plus; same = negated_same x }

abbrev pub product : {a b : ℤ} → Difference a → Difference b → Difference (a *ℤ b)
product x y = record { plus = x.plus * y.plus + x.minus * y.minus; minus = x.plus * y.minus + x.minus * y.plus; same = product_same x y }

-- a factor that is a natural: no products by 0
pub scaled_same : (k : ℕ) {a : ℤ} (x : Difference a) → max0 (pos k *ℤ a) + k * x.minus ≡ k * x.plus + neg_part (pos k *ℤ a)
scaled_same k {a} x = omega (arith, product_same (natural k) x)

pub scaled_right_same : (k : ℕ) {a : ℤ} (x : Difference a) → max0 (a *ℤ pos k) + x.minus * k ≡ x.plus * k + neg_part (a *ℤ pos k)
scaled_right_same k {a} x = omega (arith, product_same x (natural k))

abbrev pub scaled : (k : ℕ) {a : ℤ} → Difference a → Difference (pos k *ℤ a)
scaled k x = record { plus = k * x.plus; minus = k * x.minus; same = scaled_same k x }

abbrev pub scaled_right : (k : ℕ) {a : ℤ} → Difference a → Difference (a *ℤ pos k)
scaled_right k x = record { plus = x.plus * k; minus = x.minus * k; same = scaled_right_same k x }

pub ruleset differences = (natural, scaled, scaled_right, sum, negated, product)

-- ---- to ℕ, and back to ℤ. A linear fact h : a ≤ℤ b is given to `omega`, and one is proved by it, so:
--      to-ℤ≤ (search differences) (search differences) (omega (arith, to-ℕ≤ h (search differences) (search differences)))
--    with a `let x = as_difference z in` before it for each variable z; between bare variables the rules `parts≤`, `parts<`, `parts≡` serve:
--      to-ℤ≤ (as-difference a) (as-difference c) (omega (arith, parts≤))

pub to_ℕ≤ : {a b : ℤ} → a ≤ℤ b → (x : Difference a) (y : Difference b) → x.plus + y.minus ≤ y.plus + x.minus
to_ℕ≤ {a} {b} h x y = omega (arith, parts≤ a b h, x.same, y.same)

pub to_ℕ< : {a b : ℤ} → a <ℤ b → (x : Difference a) (y : Difference b) → x.plus + y.minus < y.plus + x.minus
to_ℕ< {a} {b} h x y = omega (arith, parts< a b h, x.same, y.same)

pub to-ℕ≡ : {a b : ℤ} → a ≡ b → (x : Difference a) (y : Difference b) → x.plus + y.minus ≡ y.plus + x.minus
to-ℕ≡ {a} {b} h x y = omega (arith, parts≡ a b h, x.same, y.same)

pub to_ℤ≤ : {a b : ℤ} (x : Difference a) (y : Difference b) → x.plus + y.minus ≤ y.plus + x.minus → a ≤ℤ b
to_ℤ≤ {a} {b} x y h = from_parts≤ a b (omega (arith, x.same, y.same))

pub to_ℤ< : {a b : ℤ} (x : Difference a) (y : Difference b) → x.plus + y.minus < y.plus + x.minus → a <ℤ b
to_ℤ< {a} {b} x y h = from_parts< a b (omega (arith, x.same, y.same))

pub to-ℤ≡ : {a b : ℤ} (x : Difference a) (y : Difference b) → x.plus + y.minus ≡ y.plus + x.minus → a ≡ b
to-ℤ≡ {a} {b} x y h = from-parts≡ a b (omega (arith, x.same, y.same))
