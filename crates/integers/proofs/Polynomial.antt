-- A ring normaliser for ℤ by reflection: an expression becomes a polynomial with one coefficient for each monomial, by a computation that is
-- proved to keep its value, so that two expressions are equal where nothing is left of their difference. Assumes nothing.
use mathlib.Core.Path.{◌≡◌, refl, sym, ap, ap₂, ◌∙◌}
use mathlib.Core.Bool.{Bool, true, false}
use mathlib.Core.List.{List, [], ◌∷◌}
use Prim.Native.Nat.{ℕ, zero, suc}
use native.Mathlib.Omega.{arith}
use lib.Dec.{T, eqb, leb, eqb→eq}
use lib.IntN.{ℤ, pos, negsuc, neg_ℤ, ◌+ℤ◌, ◌*ℤ◌, +ℤ_idl, +ℤ_assoc, zero-*ℤ, *ℤ-zero}
use Rattle.integers.proofs.Difference.{as_difference, differences, to-ℤ≡}

-- ---- expressions over a list of atoms, each named by its place
pub data Expression : Type 0 where
  atom : ℕ → Expression
  literal : ℤ → Expression
  add : Expression → Expression → Expression
  mul : Expression → Expression → Expression
  neg : Expression → Expression

abbrev pub lookup : List ℤ → ℕ → ℤ
lookup [] i = pos 0
lookup (x ∷ ρ) zero = x
lookup (x ∷ ρ) (suc i) = lookup ρ i

abbrev pub evaluate : Expression → List ℤ → ℤ
evaluate (atom i) ρ = lookup ρ i
evaluate (literal k) ρ = k
evaluate (add a b) ρ = evaluate a ρ +ℤ evaluate b ρ
evaluate (mul a b) ρ = evaluate a ρ *ℤ evaluate b ρ
evaluate (neg a) ρ = neg_ℤ (evaluate a ρ)

-- ---- polynomials: monomials by the sorted places of their factors
abbrev pub monomial : List ℕ → List ℤ → ℤ
monomial [] ρ = pos 1
monomial (i ∷ m) ρ = lookup ρ i *ℤ monomial m ρ

abbrev pub insert : ℕ → List ℕ → List ℕ
insert i [] = i ∷ []
insert i (j ∷ m) = elim (leb i j) [ true ↦ i ∷ j ∷ m | false ↦ j ∷ insert i m ]

abbrev pub merge : List ℕ → List ℕ → List ℕ
merge [] n = n
merge (i ∷ m) n = insert i (merge m n)

abbrev pub same_factors : List ℕ → List ℕ → Bool
same_factors [] [] = true
same_factors [] (j ∷ n) = false
same_factors (i ∷ m) [] = false
same_factors (i ∷ m) (j ∷ n) = elim (eqb i j) [ true ↦ same_factors m n | false ↦ false ]

pub data Polynomial : Type 0 where
  nil : Polynomial
  term : ℤ → List ℕ → Polynomial → Polynomial

abbrev pub value : Polynomial → List ℤ → ℤ
value nil ρ = pos 0
value (term k m s) ρ = k *ℤ monomial m ρ +ℤ value s ρ

abbrev pub add_term : ℤ → List ℕ → Polynomial → Polynomial
add_term k m nil = term k m nil
add_term k m (term j n s) = elim (same_factors m n) [ true ↦ term (k +ℤ j) n s | false ↦ term j n (add_term k m s) ]

abbrev pub add_polynomial : Polynomial → Polynomial → Polynomial
add_polynomial nil t = t
add_polynomial (term k m s) t = add_term k m (add_polynomial s t)

abbrev pub scale_polynomial : ℤ → List ℕ → Polynomial → Polynomial
scale_polynomial k m nil = nil
scale_polynomial k m (term j n s) = term (k *ℤ j) (merge m n) (scale_polynomial k m s)

abbrev pub multiply : Polynomial → Polynomial → Polynomial
multiply nil t = nil
multiply (term k m s) t = add_polynomial (scale_polynomial k m t) (multiply s t)

abbrev pub negate : Polynomial → Polynomial
negate nil = nil
negate (term k m s) = term (neg_ℤ k) m (negate s)

abbrev pub normalise : Expression → Polynomial
normalise (atom i) = term (pos 1) (i ∷ []) nil
normalise (literal k) = term k [] nil
normalise (add a b) = add_polynomial (normalise a) (normalise b)
normalise (mul a b) = multiply (normalise a) (normalise b)
normalise (neg a) = negate (normalise a)

abbrev pub is_zero : ℤ → Bool
is_zero (pos zero) = true
is_zero (pos (suc n)) = false
is_zero (negsuc n) = false

-- the terms that are not 0
abbrev pub leftover : Polynomial → Polynomial
leftover nil = nil
leftover (term k m s) = elim (is_zero k) [ true ↦ leftover s | false ↦ term k m (leftover s) ]

-- nothing is left over: `tt` proves `Done none`, and nothing proves `Over ..`, which shows what is left
pub data Leftover (k : ℤ) (m : List ℕ) (s : Polynomial) : Type 0 where

abbrev pub NothingLeft : Polynomial → Type 0
NothingLeft nil = Unit {0}
NothingLeft (term k m s) = Leftover k m s

pub leftover_absurd : {X : Type 0} (k : ℤ) (m : List ℕ) (s : Polynomial) → Leftover k m s → X
leftover_absurd k m s o = elim o [ ]

-- ---- soundness
swap : (a b c : ℤ) → a *ℤ (b *ℤ c) ≡ b *ℤ (a *ℤ c)
swap a b c = let x = as_difference a in let y = as_difference b in let z = as_difference c in to-ℤ≡ (search differences) (search differences) (omega arith)

assoc : (a b c : ℤ) → (a *ℤ b) *ℤ c ≡ a *ℤ (b *ℤ c)
assoc a b c = let x = as_difference a in let y = as_difference b in let z = as_difference c in to-ℤ≡ (search differences) (search differences) (omega arith)

one_mul : (a : ℤ) → pos 1 *ℤ a ≡ a
one_mul a = let x = as_difference a in to-ℤ≡ (search differences) (search differences) (omega arith)

insert_value : (i : ℕ) (m : List ℕ) (ρ : List ℤ) → monomial (insert i m) ρ ≡ lookup ρ i *ℤ monomial m ρ
insert_value i [] ρ = refl
insert_value i (j ∷ m) ρ = go (leb i j) (insert_value i m ρ)
  where
    go : (b : Bool) → monomial (insert i m) ρ ≡ lookup ρ i *ℤ monomial m ρ → monomial (elim b [ true ↦ i ∷ j ∷ m | false ↦ j ∷ insert i m ]) ρ ≡ lookup ρ i *ℤ (lookup ρ j *ℤ monomial m ρ)
    go true e = refl
    go false e = ap (λ (t : ℤ). lookup ρ j *ℤ t) e ∙ swap (lookup ρ j) (lookup ρ i) (monomial m ρ)

merge_value : (m n : List ℕ) (ρ : List ℤ) → monomial (merge m n) ρ ≡ monomial m ρ *ℤ monomial n ρ
merge_value [] n ρ = sym (one_mul (monomial n ρ))
merge_value (i ∷ m) n ρ = insert_value i (merge m n) ρ ∙ ap (λ (t : ℤ). lookup ρ i *ℤ t) (merge_value m n ρ) ∙ sym (assoc (lookup ρ i) (monomial m ρ) (monomial n ρ))

same_factors_equal : (m n : List ℕ) → T (same_factors m n) → m ≡ n
same_factors_equal [] [] t = refl
same_factors_equal [] (j ∷ n) t = absurd t
same_factors_equal (i ∷ m) [] t = absurd t
same_factors_equal (i ∷ m) (j ∷ n) t = go (eqb i j) (eqb→eq i j) (same_factors_equal m n) t
  where
    go : (b : Bool) → (T b → i ≡ j) → (T (same_factors m n) → m ≡ n) → T (elim b [ true ↦ same_factors m n | false ↦ false ]) → i ∷ m ≡ j ∷ n
    go true f g s = ap₂ ◌∷◌ (f tt) (g s)
    go false f g s = absurd s

add_term_value : (k : ℤ) (m : List ℕ) (s : Polynomial) (ρ : List ℤ) → value (add_term k m s) ρ ≡ k *ℤ monomial m ρ +ℤ value s ρ
add_term_value k m nil ρ = refl
add_term_value k m (term j n s) ρ = go (same_factors m n) (same_factors_equal m n) (add_term_value k m s ρ)
  where
    merge : (k j x s : ℤ) → (k +ℤ j) *ℤ x +ℤ s ≡ k *ℤ x +ℤ (j *ℤ x +ℤ s)
    merge k j x s = let a = as_difference k in let b = as_difference j in let c = as_difference x in let d = as_difference s in to-ℤ≡ (search differences) (search differences) (omega arith)

    over : (a b s : ℤ) → a +ℤ (b +ℤ s) ≡ b +ℤ (a +ℤ s)
    over a b s = let x = as_difference a in let y = as_difference b in let d = as_difference s in to-ℤ≡ (search differences) (search differences) (omega arith)

    go : (b : Bool) → (T b → m ≡ n) → value (add_term k m s) ρ ≡ k *ℤ monomial m ρ +ℤ value s ρ → value (elim b [ true ↦ term (k +ℤ j) n s | false ↦ term j n (add_term k m s) ]) ρ ≡ k *ℤ monomial m ρ +ℤ (j *ℤ monomial n ρ +ℤ value s ρ)
    go true f e = merge k j (monomial n ρ) (value s ρ) ∙ ap (λ (l : List ℕ). k *ℤ monomial l ρ +ℤ (j *ℤ monomial n ρ +ℤ value s ρ)) (sym (f tt))
    go false f e = ap (λ (t : ℤ). j *ℤ monomial n ρ +ℤ t) e ∙ over (j *ℤ monomial n ρ) (k *ℤ monomial m ρ) (value s ρ)

add_polynomial_value : (s t : Polynomial) (ρ : List ℤ) → value (add_polynomial s t) ρ ≡ value s ρ +ℤ value t ρ
add_polynomial_value nil t ρ = sym (+ℤ_idl (value t ρ))
add_polynomial_value (term k m s) t ρ = add_term_value k m (add_polynomial s t) ρ ∙ ap (λ (u : ℤ). k *ℤ monomial m ρ +ℤ u) (add_polynomial_value s t ρ) ∙ sym (+ℤ_assoc (k *ℤ monomial m ρ) (value s ρ) (value t ρ))

scale_value : (k : ℤ) (m : List ℕ) (t : Polynomial) (ρ : List ℤ) → value (scale_polynomial k m t) ρ ≡ k *ℤ monomial m ρ *ℤ value t ρ
scale_value k m nil ρ = sym (*ℤ-zero (k *ℤ monomial m ρ))
scale_value k m (term j n s) ρ = ap₂ ◌+ℤ◌ (ap (λ (u : ℤ). k *ℤ j *ℤ u) (merge_value m n ρ)) (scale_value k m s ρ) ∙ law k j (monomial m ρ) (monomial n ρ) (value s ρ)
  where
    dist : (a b c : ℤ) → a *ℤ b +ℤ a *ℤ c ≡ a *ℤ (b +ℤ c)
    dist a b c = let x = as_difference a in let y = as_difference b in let z = as_difference c in to-ℤ≡ (search differences) (search differences) (omega arith)

    law : (k j x y s : ℤ) → k *ℤ j *ℤ (x *ℤ y) +ℤ k *ℤ x *ℤ s ≡ k *ℤ x *ℤ (j *ℤ y +ℤ s)
    law k j x y s = ap (λ (t : ℤ). t +ℤ k *ℤ x *ℤ s) (assoc k j (x *ℤ y) ∙ ap (λ (t : ℤ). k *ℤ t) (swap j x y) ∙ sym (assoc k x (j *ℤ y))) ∙ dist (k *ℤ x) (j *ℤ y) s

multiply_value : (s t : Polynomial) (ρ : List ℤ) → value (multiply s t) ρ ≡ value s ρ *ℤ value t ρ
multiply_value nil t ρ = sym (zero-*ℤ (value t ρ))
multiply_value (term k m s) t ρ = add_polynomial_value (scale_polynomial k m t) (multiply s t) ρ ∙ ap₂ ◌+ℤ◌ (scale_value k m t ρ) (multiply_value s t ρ) ∙ law (k *ℤ monomial m ρ) (value s ρ) (value t ρ)
  where
    law : (a b c : ℤ) → a *ℤ c +ℤ b *ℤ c ≡ (a +ℤ b) *ℤ c
    law a b c = let x = as_difference a in let y = as_difference b in let z = as_difference c in to-ℤ≡ (search differences) (search differences) (omega arith)

negate_value : (s : Polynomial) (ρ : List ℤ) → value (negate s) ρ ≡ neg_ℤ (value s ρ)
negate_value nil ρ = refl
negate_value (term k m s) ρ = ap (λ (u : ℤ). neg_ℤ k *ℤ monomial m ρ +ℤ u) (negate_value s ρ) ∙ law k (monomial m ρ) (value s ρ)
  where
    law : (a b c : ℤ) → neg_ℤ a *ℤ b +ℤ neg_ℤ c ≡ neg_ℤ (a *ℤ b +ℤ c)
    law a b c = let x = as_difference a in let y = as_difference b in let z = as_difference c in to-ℤ≡ (search differences) (search differences) (omega arith)

pub normalise_value : (e : Expression) (ρ : List ℤ) → value (normalise e) ρ ≡ evaluate e ρ
normalise_value (atom i) ρ = law (lookup ρ i)
  where
    law : (a : ℤ) → pos 1 *ℤ (a *ℤ pos 1) +ℤ pos 0 ≡ a
    law a = let x = as_difference a in to-ℤ≡ (search differences) (search differences) (omega arith)
normalise_value (literal k) ρ = law k
  where
    law : (a : ℤ) → a *ℤ pos 1 +ℤ pos 0 ≡ a
    law a = let x = as_difference a in to-ℤ≡ (search differences) (search differences) (omega arith)
normalise_value (add a b) ρ = add_polynomial_value (normalise a) (normalise b) ρ ∙ ap₂ ◌+ℤ◌ (normalise_value a ρ) (normalise_value b ρ)
normalise_value (mul a b) ρ = multiply_value (normalise a) (normalise b) ρ ∙ ap₂ ◌*ℤ◌ (normalise_value a ρ) (normalise_value b ρ)
normalise_value (neg a) ρ = negate_value (normalise a) ρ ∙ ap neg_ℤ (normalise_value a ρ)

pub leftover_zero : (p : Polynomial) (ρ : List ℤ) → NothingLeft (leftover p) → value p ρ ≡ pos 0
leftover_zero nil ρ t = refl
leftover_zero (term (pos zero) m s) ρ t = ap₂ ◌+ℤ◌ (zero-*ℤ (monomial m ρ)) (leftover_zero s ρ t)
leftover_zero (term (pos (suc n)) m s) ρ t = leftover_absurd (pos (suc n)) m (leftover s) t
leftover_zero (term (negsuc n) m s) ρ t = leftover_absurd (negsuc n) m (leftover s) t
