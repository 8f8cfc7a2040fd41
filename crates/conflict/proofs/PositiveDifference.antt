-- A number times the test that it is above 0, as a number, is the larger of 0 and the number: what the line of `positive_difference` computes. Assumes nothing.
use mathlib.Core.Path.{◌≡◌, refl, sym, ap, ◌∙◌, subst}
use mathlib.Core.Bool.{Bool, true, false, not, ◌&&◌}
use mathlib.Core.List.{[], ◌∷◌}
use Prim.Native.Nat.{ℕ, ◌+◌, ◌≤◌, ◌^◌}
use native.Mathlib.Omega.{arith}
use lib.Dec.{T, leb, leb→le, lt→ltb}
use lib.IntN.{ℤ, pos, ◌-ℤ◌, ◌*ℤ◌, nat_abs}
use lib.Signed.{◌≤ℤ◌, ◌<ℤ◌, lt_z, lt_z_yes, lt_z_no}
use mir.Syntax.{w64}
use mir.Val.{SFits, to_z, of_z, bool_byte}
use mir.Facts.{to_z-of_z}
use Rattle.integers.specs.Extremes.{max0}
use Rattle.integers.proofs.Certificates.{ring}
use Rattle.integers.proofs.Quotation.{quote}
use Rattle.integers.proofs.Laws.{<ℤ_≤ℤ, max0_same, max0_none}
use Rattle.integers.proofs.Machine.{Reading, bounded_absolute, fits, result, less_is, machine}
use Rattle.conflict.specs.inner.DifferenceRange.{max_operand}

-- ---- a test as a machine number: 0 or 1
number_of_test : (f : Bool) → to_z w64 (bool_byte f) ≡ pos (bool_byte f)
number_of_test false = refl
number_of_test true = refl

test_small : (f : Bool) → bool_byte f + 0 ≤ 1
test_small false = omega arith
test_small true = omega arith

module _ {s t : ℤ} (x : Reading s) (y : Reading t) where
  pub less_number_is : T (x.guard && y.guard) → to_z w64 (bool_byte (lt_z s t)) ≡ pos (bool_byte (lt_z x.number y.number))
  less_number_is g = number_of_test (lt_z s t) ∙ ap (λ (f : Bool). pos (bool_byte f)) (less_is x y g)

  pub less_number_small : T (x.guard && y.guard) → max0 (pos (bool_byte (lt_z x.number y.number))) + 0 ≤ 1
  less_number_small g = test_small (lt_z x.number y.number)

abbrev pub read_less : {s t : ℤ} → Reading s → Reading t → Reading (to_z w64 (bool_byte (lt_z s t)))
read_less x y = record { number = pos (bool_byte (lt_z x.number y.number)); bound = 1; guard = x.guard && y.guard; is = less_number_is x y; small = less_number_small x y }

-- ---- the two numbers
-- a number of a caller, as it is handed over, is within the range
pub operand : (z : ℤ) (B : ℕ) → nat_abs z ≤ B → T (leb B max_operand) → nat_abs (to_z w64 (of_z w64 z)) ≤ max_operand
operand z B h t =
    let l = leb→le B max_operand t in
    subst (λ (x : ℤ). nat_abs x ≤ max_operand) (sym (to_z-of_z (fits (bounded_absolute z B h) (lt→ltb B (2 ^ 63) (omega arith))))) (omega arith)

abbrev pub read_operand : (z : ℤ) → nat_abs z ≤ max_operand → Reading z
read_operand z h = bounded_absolute z max_operand h

-- `search operands` finds the reading of a machine term over them
pub ruleset operands = (machine, read_less, read_operand)

-- ---- the law, and what the code computes
times_above_zero : (z : ℤ) → z *ℤ pos (bool_byte (lt_z (pos 0) z)) ≡ pos (max0 z)
times_above_zero z = by_test (lt_z (pos 0) z) lt_z_yes lt_z_no
  where
    by_test : (f : Bool) → (T f → pos 0 <ℤ z) → (T (not f) → z ≤ℤ pos 0) → z *ℤ pos (bool_byte f) ≡ pos (max0 z)
    by_test true above other = ring [] (z ∷ []) (λ v. search quote depth 20) tt ∙ sym (max0_same z (<ℤ_≤ℤ (above tt)))
    by_test false above other = ring [] (z ∷ []) (λ v. search quote depth 20) tt ∙ ap pos (sym (max0_none z (other tt)))

module _ (q u : ℤ) where
  abbrev difference : ℤ
  difference = to_z w64 (of_z w64 (to_z w64 (of_z w64 q) -ℤ to_z w64 (of_z w64 u)))

  abbrev pub computed : ℤ
  computed = difference *ℤ to_z w64 (bool_byte (lt_z (pos 0) difference))

  module _ (h : nat_abs q ≤ max_operand) (k : nat_abs u ≤ max_operand) where
    pub computed_fits : SFits w64 computed
    computed_fits = fits (search operands depth 20) tt

    pub computed_is : to_z w64 (of_z w64 computed) ≡ pos (max0 (q -ℤ u))
    computed_is = to_z-of_z computed_fits ∙ (result (search operands depth 20) tt ∙ times_above_zero (q -ℤ u))
