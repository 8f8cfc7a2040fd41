-- Signed code of 64 bits: `search machine` reads a machine term, a tree of sums and products with casts between, as a number with a bound, and both
-- compute. `fits` then answers "the result fits", `passed` and `failed` "what a test says", `result` "what the result is". Assumes nothing.
use mathlib.Core.Path.{◌≡◌, refl, sym, ap, ap₂, ◌∙◌, subst}
use mathlib.Core.Bool.{Bool, true, false, not, ◌&&◌}
use Prim.Native.Nat.{ℕ, zero, suc, ◌+◌, ◌*◌, ◌≤◌, ◌^◌}
use native.Mathlib.Nat.{mul-le-mul}
use native.Mathlib.Omega.{arith}
use lib.Dec.{T, ltb, leb, ltb→lt, lt→ltb, nleb→lt}
use lib.Ieee.Fits.{and_l, and_r}
use lib.IntN.{ℤ, pos, negsuc, neg_ℤ, ◌+ℤ◌, ◌*ℤ◌, nat_abs}
use lib.Signed.{◌≤ℤ◌, ◌<ℤ◌, lt_z, le_z, lt_z_yes, lt_z_no, le_z_yes}
use denote.Floats.{passes}
use mir.Syntax.{w64}
use mir.Val.{SFits, to_z, of_z}
use mir.Facts.{to_z-of_z, to_z_pos}
use Rattle.integers.specs.Extremes.{max0}
use Rattle.integers.proofs.Difference.{neg_part, sum_parts, natural, as_difference, negated, to_ℕ≤}

-- ---- what is known of a machine term t: where the guard computes to true, it equals a number whose size is within a bound
pub record Reading (t : ℤ) : Type 0 where
  pub number : ℤ
  pub bound : ℕ
  pub guard : Bool
  pub is : T guard → t ≡ number
  pub small : T guard → max0 number + neg_part number ≤ bound

size_sum : (x y : ℤ) → max0 (x +ℤ y) + neg_part (x +ℤ y) ≤ (max0 x + neg_part x) + (max0 y + neg_part y)
size_sum x y = one (x +ℤ y) (sum_parts x y)
  where
    one : (r : ℤ) → max0 r + (neg_part x + neg_part y) ≡ (max0 x + max0 y) + neg_part r → max0 r + neg_part r ≤ (max0 x + neg_part x) + (max0 y + neg_part y)
    one (pos n) e = omega arith
    one (negsuc n) e = omega arith

size_negation : (x : ℤ) → max0 (neg_ℤ x) + neg_part (neg_ℤ x) ≡ max0 x + neg_part x
size_negation (pos zero) = refl
size_negation (pos (suc n)) = omega arith
size_negation (negsuc n) = omega arith

size_negated_natural : (k : ℕ) → max0 (neg_ℤ (pos k)) + neg_part (neg_ℤ (pos k)) ≡ k
size_negated_natural zero = refl
size_negated_natural (suc n) = omega arith

size_product : (x y : ℤ) → max0 (x *ℤ y) + neg_part (x *ℤ y) ≡ (max0 x + neg_part x) * (max0 y + neg_part y)
size_product (pos a) (pos b) = omega arith
size_product (pos a) (negsuc b) = omega (arith, size_negated_natural (a * suc b))
size_product (negsuc a) (pos b) = omega (arith, size_negated_natural (suc a * b))
size_product (negsuc a) (negsuc b) = omega arith

small_fits : (z : ℤ) (b : ℕ) → max0 z + neg_part z ≤ b → T (ltb b (2 ^ 63)) → SFits w64 z
small_fits (pos n) b h t = record { sfits = omega (arith, ltb→lt b (2 ^ 63) t) }
small_fits (negsuc n) b h t = record { sfits = omega (arith, ltb→lt b (2 ^ 63) t) }

module _ {a c : ℤ} (x : Reading a) (y : Reading c) where
  pub sum_is : T (x.guard && y.guard) → a +ℤ c ≡ x.number +ℤ y.number
  sum_is t = ap₂ ◌+ℤ◌ (x.is (and_l x.guard y.guard t)) (y.is (and_r x.guard y.guard t))

  pub sum_small : T (x.guard && y.guard) → max0 (x.number +ℤ y.number) + neg_part (x.number +ℤ y.number) ≤ x.bound + y.bound
  sum_small t = omega (arith, size_sum x.number y.number, x.small (and_l x.guard y.guard t), y.small (and_r x.guard y.guard t))

  pub product_is : T (x.guard && y.guard) → a *ℤ c ≡ x.number *ℤ y.number
  product_is t = ap₂ ◌*ℤ◌ (x.is (and_l x.guard y.guard t)) (y.is (and_r x.guard y.guard t))

  pub product_small : T (x.guard && y.guard) → max0 (x.number *ℤ y.number) + neg_part (x.number *ℤ y.number) ≤ x.bound * y.bound
  product_small t = omega (arith, size_product x.number y.number, mul-le-mul (x.small (and_l x.guard y.guard t)) (y.small (and_r x.guard y.guard t)))

pub negation_small : {a : ℤ} (x : Reading a) → T x.guard → max0 (neg_ℤ x.number) + neg_part (neg_ℤ x.number) ≤ x.bound
negation_small x t = omega (arith, size_negation x.number, x.small t)

pub negation_is : {a : ℤ} (x : Reading a) → T x.guard → neg_ℤ a ≡ neg_ℤ x.number
negation_is x t = ap neg_ℤ (x.is t)

pub stored_is : {a : ℤ} (x : Reading a) → T (x.guard && ltb x.bound (2 ^ 63)) → to_z w64 (of_z w64 a) ≡ x.number
stored_is {a} x t = to_z-of_z (subst (SFits w64) (sym (x.is t₀)) (small_fits x.number x.bound (x.small t₀) (and_r x.guard (ltb x.bound (2 ^ 63)) t))) ∙ x.is t₀
  where
    t₀ : T x.guard
    t₀ = and_l x.guard (ltb x.bound (2 ^ 63)) t

pub stored_small : {a : ℤ} (x : Reading a) → T (x.guard && ltb x.bound (2 ^ 63)) → max0 x.number + neg_part x.number ≤ x.bound
stored_small x t = x.small (and_l x.guard (ltb x.bound (2 ^ 63)) t)

abbrev pub read_sum : {a c : ℤ} → Reading a → Reading c → Reading (a +ℤ c)
read_sum x y = record { number = x.number +ℤ y.number; bound = x.bound + y.bound; guard = x.guard && y.guard; is = sum_is x y; small = sum_small x y }

abbrev pub read_product : {a c : ℤ} → Reading a → Reading c → Reading (a *ℤ c)
read_product x y = record { number = x.number *ℤ y.number; bound = x.bound * y.bound; guard = x.guard && y.guard; is = product_is x y; small = product_small x y }

abbrev pub read_negation : {a : ℤ} → Reading a → Reading (neg_ℤ a)
read_negation x = record { number = neg_ℤ x.number; bound = x.bound; guard = x.guard; is = negation_is x; small = negation_small x }

abbrev pub read_stored : {a : ℤ} → Reading a → Reading (to_z w64 (of_z w64 a))
read_stored x = record { number = x.number; bound = x.bound; guard = x.guard && ltb x.bound (2 ^ 63); is = stored_is x; small = stored_small x }

pub literal_small : (k : ℕ) → Unit {0} → k + 0 ≤ k
literal_small k t = omega arith

abbrev pub read_literal : (k : ℕ) → T (leb k k) → Reading (pos k)
read_literal k t = record { number = pos k; bound = k; guard = true; is = λ _. refl; small = literal_small k }

pub negative_literal_small : (k : ℕ) → Unit {0} → 0 + suc k ≤ suc k
negative_literal_small k t = omega arith

abbrev pub read_negative_literal : (k : ℕ) → T (leb k k) → Reading (negsuc k)
read_negative_literal k t = record { number = negsuc k; bound = suc k; guard = true; is = λ _. refl; small = negative_literal_small k }

-- ---- what a proof says of its variables
-- a number from -B to B
pub within : (z : ℤ) (B : ℕ) → neg_ℤ (pos B) ≤ℤ z → z ≤ℤ pos B → Unit {0} → max0 z + neg_part z ≤ B
within (pos n) B l h t = omega (arith, to_ℕ≤ h (natural n) (natural B))
within (negsuc n) B l h t = omega (arith, to_ℕ≤ l (negated (natural B)) (as_difference (negsuc n)))

abbrev pub bounded : (z : ℤ) (B : ℕ) → neg_ℤ (pos B) ≤ℤ z → z ≤ℤ pos B → Reading z
bounded z B l h = record { number = z; bound = B; guard = true; is = λ _. refl; small = within z B l h }

-- a number from 0 to B
pub within_non_negative : (z : ℤ) (B : ℕ) → pos 0 ≤ℤ z → z ≤ℤ pos B → Unit {0} → max0 z + neg_part z ≤ B
within_non_negative (pos n) B l h t = omega (arith, to_ℕ≤ h (natural n) (natural B))
within_non_negative (negsuc n) B l h t = absurd l.le

abbrev pub bounded_non_negative : (z : ℤ) (B : ℕ) → pos 0 ≤ℤ z → z ≤ℤ pos B → Reading z
bounded_non_negative z B l h = record { number = z; bound = B; guard = true; is = λ _. refl; small = within_non_negative z B l h }

-- a natural up to B
pub natural_small : (n B : ℕ) → n ≤ B → Unit {0} → n + 0 ≤ B
natural_small n B h t = omega arith

abbrev pub bounded_natural : (n B : ℕ) → n ≤ B → Reading (pos n)
bounded_natural n B h = record { number = pos n; bound = B; guard = true; is = λ _. refl; small = natural_small n B h }

-- a natural up to B, cast from an unsigned type: B is below 2 ^ 63
pub word_is : (n B : ℕ) → n ≤ B → T (ltb B (2 ^ 63)) → to_z w64 n ≡ pos n
word_is n B h t = to_z_pos w64 (omega (arith, ltb→lt B (2 ^ 63) t))

pub word_small : (n B : ℕ) → n ≤ B → T (ltb B (2 ^ 63)) → n + 0 ≤ B
word_small n B h t = omega arith

abbrev pub bounded_word : (n B : ℕ) → n ≤ B → Reading (to_z w64 n)
bounded_word n B h = record { number = pos n; bound = B; guard = ltb B (2 ^ 63); is = word_is n B h; small = word_small n B h }

-- a term of which no bound is known: for a test
pub any_small : (t : ℤ) → Unit {0} → max0 t + neg_part t ≤ max0 t + neg_part t
any_small t u = omega arith

abbrev pub unbounded : (t : ℤ) → Reading t
unbounded t = record { number = t; bound = max0 t + neg_part t; guard = true; is = λ _. refl; small = any_small t }

-- a term that is known to equal another, or the cast of a natural that is
abbrev pub equal_to : {r t : ℤ} → r ≡ t → Reading t → Reading r
equal_to h x = record { number = x.number; bound = x.bound; guard = x.guard; is = λ t. h ∙ x.is t; small = x.small }

abbrev pub word_equal_to : {m n : ℕ} → m ≡ n → Reading (to_z w64 n) → Reading (to_z w64 m)
word_equal_to h x = equal_to (ap (to_z w64) h) x

-- a number whose absolute value is at most B
pub absolute_small : (z : ℤ) (B : ℕ) → nat_abs z ≤ B → Unit {0} → max0 z + neg_part z ≤ B
absolute_small (pos n) B h t = omega arith
absolute_small (negsuc n) B h t = omega arith

abbrev pub bounded_absolute : (z : ℤ) (B : ℕ) → nat_abs z ≤ B → Reading z
bounded_absolute z B h = record { number = z; bound = B; guard = true; is = λ _. refl; small = absolute_small z B h }

-- ---- what a proof cites
-- The result fits. Example, for code that computes 2 * u * n, where lo and hi bound u, and l : n ≤ 600:
--   let v = (bounded u 20000 lo hi, bounded-word n 600 l) in fits (search machine depth 20) tt
pub fits : {t : ℤ} (x : Reading t) → T (x.guard && ltb x.bound (2 ^ 63)) → SFits w64 t
fits x t = subst (SFits w64) (sym (x.is t₀)) (small_fits x.number x.bound (x.small t₀) (and_r x.guard (ltb x.bound (2 ^ 63)) t))
  where
    t₀ : T x.guard
    t₀ = and_l x.guard (ltb x.bound (2 ^ 63)) t

-- What the result is: the term's casts are gone. Example, for the same code, with the same v:
--   result (search machine depth 20) tt : to_z w64 (of_z w64 (pos 2 *ℤ u)) *ℤ to_z w64 n ≡ pos 2 *ℤ u *ℤ pos n
pub result : {t : ℤ} (x : Reading t) → T x.guard → t ≡ x.number
result x t = x.is t

abbrev pub read_natural_sum : (a c : ℕ) → Reading (pos a) → Reading (pos c) → Reading (pos (a + c))
read_natural_sum a c x y = record { number = x.number +ℤ y.number; bound = x.bound + y.bound; guard = x.guard && y.guard; is = sum_is x y; small = sum_small x y }

abbrev pub read_natural_product : (a c : ℕ) → Reading (pos a) → Reading (pos c) → Reading (pos (a * c))
read_natural_product a c x y = record { number = x.number *ℤ y.number; bound = x.bound * y.bound; guard = x.guard && y.guard; is = product_is x y; small = product_small x y }

-- ---- tests: what a branch tells of the numbers
both : (X : ℤ → ℤ → Type 0) {s t : ℤ} (x : Reading s) (y : Reading t) → T (x.guard && y.guard) → X s t → X x.number y.number
both X {s} {t} x y g h = subst (λ (c : ℤ). X x.number c) (y.is (and_r x.guard y.guard g)) (subst (λ (c : ℤ). X c t) (x.is (and_l x.guard y.guard g)) h)

not_at_most : (a c : ℤ) → T (not (le_z a c)) → c <ℤ a
not_at_most (pos a) (pos c) t = record { lt = lt→ltb c a (nleb→lt a c t) }
not_at_most (pos a) (negsuc c) t = record { lt = tt }
not_at_most (negsuc a) (pos c) t = absurd t
not_at_most (negsuc a) (negsuc c) t = record { lt = lt→ltb a c (nleb→lt c a t) }

-- a flag, and what it says of the numbers
pub record Flag (f : Bool) : Type 1 where
  pub yes : Type 0
  pub no : Type 0
  pub guard : Bool
  pub if_yes : T guard → f ≡ true → yes
  pub if_no : T guard → f ≡ false → no

module _ {s t : ℤ} (x : Reading s) (y : Reading t) where
  pub less_yes : T (x.guard && y.guard) → lt_z s t ≡ true → x.number <ℤ y.number
  less_yes g h = both ◌<ℤ◌ x y g (lt_z_yes (passes (lt_z s t) h))

  pub less_no : T (x.guard && y.guard) → lt_z s t ≡ false → y.number ≤ℤ x.number
  less_no g h = both (λ (a c : ℤ). c ≤ℤ a) x y g (lt_z_no (passes (not (lt_z s t)) (ap not h)))

  pub at_most_yes : T (x.guard && y.guard) → le_z s t ≡ true → x.number ≤ℤ y.number
  at_most_yes g h = both ◌≤ℤ◌ x y g (le_z_yes (passes (le_z s t) h))

  pub at_most_no : T (x.guard && y.guard) → le_z s t ≡ false → y.number <ℤ x.number
  at_most_no g h = both (λ (a c : ℤ). c <ℤ a) x y g (not_at_most s t (passes (not (le_z s t)) (ap not h)))

abbrev pub flag_less : {s t : ℤ} → Reading s → Reading t → Flag (lt_z s t)
flag_less x y = record { yes = x.number <ℤ y.number; no = y.number ≤ℤ x.number; guard = x.guard && y.guard; if_yes = less_yes x y; if_no = less_no x y }

abbrev pub flag_at_most : {s t : ℤ} → Reading s → Reading t → Flag (le_z s t)
flag_at_most x y = record { yes = x.number ≤ℤ y.number; no = y.number <ℤ x.number; guard = x.guard && y.guard; if_yes = at_most_yes x y; if_no = at_most_no x y }

-- What a test says. Example, where the code's `if u < 0` was taken, t, and v bounds u:
--   passed t (search machine) tt : u <ℤ pos 0;  and of one that was not taken, failed t (search machine) tt : pos 0 ≤ℤ u
pub passed : {f : Bool} → f ≡ true → (x : Flag f) → T x.guard → x.yes
passed h x g = x.if_yes g h

pub failed : {f : Bool} → f ≡ false → (x : Flag f) → T x.guard → x.no
failed h x g = x.if_no g h

pub ruleset machine = (tt, read_literal, read_negative_literal, read_sum, read_product, read_negation, read_stored, read_natural_sum, read_natural_product, flag_less, flag_at_most)

-- ---- a test or a natural of machine terms, and the same of the numbers
pub record Plain {A : Type 0} (t : A) : Type 0 where
  pub value : A
  pub guard : Bool
  pub is : T guard → t ≡ value

module _ {s t : ℤ} (x : Reading s) (y : Reading t) where
  pub at_most_is : T (x.guard && y.guard) → le_z s t ≡ le_z x.number y.number
  at_most_is g = ap₂ le_z (x.is (and_l x.guard y.guard g)) (y.is (and_r x.guard y.guard g))

  pub less_is : T (x.guard && y.guard) → lt_z s t ≡ lt_z x.number y.number
  less_is g = ap₂ lt_z (x.is (and_l x.guard y.guard g)) (y.is (and_r x.guard y.guard g))

abbrev pub plain_at_most : {s t : ℤ} → Reading s → Reading t → Plain (le_z s t)
plain_at_most x y = record { value = le_z x.number y.number; guard = x.guard && y.guard; is = at_most_is x y }

abbrev pub plain_less : {s t : ℤ} → Reading s → Reading t → Plain (lt_z s t)
plain_less x y = record { value = lt_z x.number y.number; guard = x.guard && y.guard; is = less_is x y }

pub max0_value : {t : ℤ} (x : Reading t) → T x.guard → max0 t ≡ max0 x.number
max0_value x g = ap max0 (x.is g)

abbrev pub plain_max0 : {t : ℤ} → Reading t → Plain (max0 t)
plain_max0 x = record { value = max0 x.number; guard = x.guard; is = max0_value x }

pub ruleset plain_terms = (machine, plain_at_most, plain_less, plain_max0)

-- The same of the numbers. Example, where v : Reading x and the code returns x <= 3:
--   plain (search plain-terms depth 20) tt : le_z (to_z w64 (of_z w64 x)) (pos 3) ≡ le_z x (pos 3)
pub plain : {A : Type 0} {t : A} (x : Plain t) → T x.guard → t ≡ x.value
plain x g = x.is g

-- a call's `ensures` says r ≡ t, over machine terms: the same over the numbers
pub plain_call : {A : Type 0} {r t : A} → r ≡ t → (x : Plain t) → T x.guard → r ≡ x.value
plain_call h x g = h ∙ x.is g
