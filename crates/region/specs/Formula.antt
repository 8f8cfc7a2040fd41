-- A formula about whole numbers, and what it says.
use Rattle.std.specs.Prelude.{◌≡◌, ◌⊎◌, ℤ, ◌*ℤ◌, ◌≤ℤ◌, ◌<ℤ◌}

-- Comparisons bind tighter than `and` and `or`, and these tighter than `implies`; where `and` and `or` meet, brackets stand.
infix 3 ◌at_most◌ ◌less_than◌ ◌equals◌ ◌at_least◌ ◌more_than◌
infixr 2 ◌and◌ ◌or◌
infixr 1 ◌implies◌
pub data Formula : Type 0 where
  ◌at_most◌ ◌less_than◌ ◌equals◌ : ℤ → ℤ → Formula
  ◌and◌ ◌or◌ ◌implies◌ : Formula → Formula → Formula

-- x ≥ y and x > y
abbrev pub ◌at_least◌ : ℤ → ℤ → Formula
x at_least y = y at_most x

abbrev pub ◌more_than◌ : ℤ → ℤ → Formula
x more_than y = y less_than x

-- what it says: ≤, <, =, ∧, ∨, →
abbrev pub Says : Formula → Type 0
Says (x at_most y) = x ≤ℤ y
Says (x less_than y) = x <ℤ y
Says (x equals y) = x ≡ y
Says (f and g) = Says f × Says g
Says (f or g) = Says f ⊎ Says g
Says (f implies g) = Says f → Says g

-- x squared
infix 8 ◌²
abbrev pub ◌² : ℤ → ℤ
x ² = x *ℤ x
