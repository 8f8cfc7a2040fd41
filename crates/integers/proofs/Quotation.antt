-- Quotation: `search quote` finds the expression that stands for a term of ℤ, over atoms that are naturals and then integers. Assumes nothing.
use mathlib.Core.Path.{◌≡◌, refl, ap, ap₂, ◌∙◌}
use mathlib.Core.List.{List, [], ◌∷◌}
use Prim.Native.Nat.{ℕ, zero, suc, ◌+◌, ◌*◌}
use native.Mathlib.Numerals.{add-one}
use lib.Dec.{T, leb}
use lib.IntN.{ℤ, pos, negsuc, neg_ℤ, ◌+ℤ◌, ◌*ℤ◌}
use Rattle.integers.proofs.Polynomial.{Expression, atom, literal, add, mul, neg, lookup, evaluate}

-- ---- a term with the expression that means it
pub record Quoted (ρ : List ℤ) (z : ℤ) : Type 0 where
  pub expression : Expression
  pub meaning : evaluate expression ρ ≡ z

abbrev pub quote_natural : {ρ : List ℤ} (k : ℕ) → T (leb k k) → Quoted ρ (pos k)
quote_natural k t = record { expression = literal (pos k); meaning = refl }

abbrev pub quote_negative : {ρ : List ℤ} (k : ℕ) → T (leb k k) → Quoted ρ (negsuc k)
quote_negative k t = record { expression = literal (negsuc k); meaning = refl }

pub sum_meaning : {ρ : List ℤ} {a b : ℤ} (x : Quoted ρ a) (y : Quoted ρ b) → evaluate (add x.expression y.expression) ρ ≡ a +ℤ b
sum_meaning x y = ap₂ ◌+ℤ◌ x.meaning y.meaning

abbrev pub quote_sum : {ρ : List ℤ} {a b : ℤ} → Quoted ρ a → Quoted ρ b → Quoted ρ (a +ℤ b)
quote_sum x y = record { expression = add x.expression y.expression; meaning = sum_meaning x y }

pub product_meaning : {ρ : List ℤ} {a b : ℤ} (x : Quoted ρ a) (y : Quoted ρ b) → evaluate (mul x.expression y.expression) ρ ≡ a *ℤ b
product_meaning x y = ap₂ ◌*ℤ◌ x.meaning y.meaning

abbrev pub quote_product : {ρ : List ℤ} {a b : ℤ} → Quoted ρ a → Quoted ρ b → Quoted ρ (a *ℤ b)
quote_product x y = record { expression = mul x.expression y.expression; meaning = product_meaning x y }

pub negation_meaning : {ρ : List ℤ} {a : ℤ} (x : Quoted ρ a) → evaluate (neg x.expression) ρ ≡ neg_ℤ a
negation_meaning x = ap neg_ℤ x.meaning

abbrev pub quote_negation : {ρ : List ℤ} {a : ℤ} → Quoted ρ a → Quoted ρ (neg_ℤ a)
quote_negation x = record { expression = neg x.expression; meaning = negation_meaning x }

-- sums and products of naturals
pub successor_meaning : {ρ : List ℤ} (a : ℕ) (x : Quoted ρ (pos a)) → evaluate (add x.expression (literal (pos 1))) ρ ≡ pos (suc a)
successor_meaning a x = ap (λ (t : ℤ). t +ℤ pos 1) x.meaning ∙ ap pos (add-one a)

abbrev pub quote_natural_sum : {ρ : List ℤ} (a b : ℕ) → Quoted ρ (pos a) → Quoted ρ (pos b) → Quoted ρ (pos (a + b))
quote_natural_sum a b x y = record { expression = add x.expression y.expression; meaning = sum_meaning x y }

abbrev pub quote_successor : {ρ : List ℤ} (a : ℕ) → Quoted ρ (pos a) → Quoted ρ (pos (suc a))
quote_successor {ρ} a x = record { expression = add x.expression (literal (pos 1)); meaning = successor_meaning a x }

abbrev pub quote_natural_product : {ρ : List ℤ} (a b : ℕ) → Quoted ρ (pos a) → Quoted ρ (pos b) → Quoted ρ (pos (a * b))
quote_natural_product a b x y = record { expression = mul x.expression y.expression; meaning = product_meaning x y }

-- several terms at once
pub record Quoted2 (ρ : List ℤ) (a b : ℤ) : Type 0 where
  pub first : Quoted ρ a
  pub second : Quoted ρ b

abbrev pub quote_2 : {ρ : List ℤ} {a b : ℤ} → Quoted ρ a → Quoted ρ b → Quoted2 ρ a b
quote_2 x y = record { first = x; second = y }

pub record Quoted3 (ρ : List ℤ) (a b s : ℤ) : Type 0 where
  pub first : Quoted ρ a
  pub second : Quoted ρ b
  pub third : Quoted ρ s

abbrev pub quote_3 : {ρ : List ℤ} {a b s : ℤ} → Quoted ρ a → Quoted ρ b → Quoted ρ s → Quoted3 ρ a b s
quote_3 x y z = record { first = x; second = y; third = z }

pub record Quoted4 (ρ : List ℤ) (a b s k : ℤ) : Type 0 where
  pub first : Quoted ρ a
  pub second : Quoted ρ b
  pub third : Quoted ρ s
  pub fourth : Quoted ρ k

abbrev pub quote_4 : {ρ : List ℤ} {a b s k : ℤ} → Quoted ρ a → Quoted ρ b → Quoted ρ s → Quoted ρ k → Quoted4 ρ a b s k
quote_4 x y z w = record { first = x; second = y; third = z; fourth = w }

pub ruleset quote = (tt, quote_natural, quote_negative, quote_natural_sum, quote_successor, quote_natural_product, quote_sum, quote_product, quote_negation, quote_2, quote_3, quote_4)

-- ---- the atoms: naturals, then integers
abbrev pub atoms : List ℕ → List ℤ → List ℤ
atoms [] σ = σ
atoms (n ∷ ν) σ = pos n ∷ atoms ν σ

abbrev pub Each : List ℤ → List ℤ → Type 0
Each ρ [] = Unit {0}
Each ρ (x ∷ σ) = Quoted ρ x × Each ρ σ

abbrev pub Variables : List ℕ → List ℤ → Type 0
Variables ν σ = Each (atoms ν σ) (atoms ν σ)

abbrev pub drop_atoms : ℕ → List ℤ → List ℤ
drop_atoms zero ρ = ρ
drop_atoms (suc i) [] = []
drop_atoms (suc i) (x ∷ ρ) = drop_atoms i ρ

pub lookup_drop : (i : ℕ) (ρ σ : List ℤ) (x : ℤ) → drop_atoms i ρ ≡ x ∷ σ → lookup ρ i ≡ x
lookup_drop zero [] σ x h = ap (λ (l : List ℤ). lookup l 0) h
lookup_drop zero (y ∷ ρ) σ x h = ap (λ (l : List ℤ). lookup l 0) h
lookup_drop (suc i) [] σ x h = ap (λ (l : List ℤ). lookup l 0) h
lookup_drop (suc i) (y ∷ ρ) σ x h = lookup_drop i ρ σ x h

pub drop_next : (i : ℕ) (ρ σ : List ℤ) (x : ℤ) → drop_atoms i ρ ≡ x ∷ σ → drop_atoms (suc i) ρ ≡ σ
drop_next zero [] σ x h = ap (drop_atoms 1) h
drop_next zero (y ∷ ρ) σ x h = ap (drop_atoms 1) h
drop_next (suc i) [] σ x h = ap (drop_atoms 1) h
drop_next (suc i) (y ∷ ρ) σ x h = drop_next i ρ σ x h

abbrev pub variables_from : (ρ σ : List ℤ) (i : ℕ) → drop_atoms i ρ ≡ σ → Each ρ σ
variables_from ρ [] i h = tt
variables_from ρ (x ∷ σ) i h = (record { expression = atom i; meaning = lookup_drop i ρ σ x h }, variables_from ρ σ (suc i) (drop_next i ρ σ x h))

abbrev pub variables : (ν : List ℕ) (σ : List ℤ) → Variables ν σ
variables ν σ = variables_from (atoms ν σ) (atoms ν σ) 0 refl
