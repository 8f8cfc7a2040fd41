-- A piece's whole numbers in 64-bit words: each is read back as it was stored, its cast to a float is exact, and a word is 0 exactly if the number is.
use mathlib.Core.Path.{◌≡◌, refl, sym, ap, subst, ◌∙◌}
use mathlib.Core.Bool.{Bool, true, false}
use Prim.Native.Nat.{◌≤◌}
use native.Mathlib.Omega.{arith}
use lib.Dec.{T}
use lib.IntN.{ℤ, pos, nat_abs}
use lib.Ieee.{binary64, in_float}
use mir.Syntax.{w64}
use mir.Val.{to_z, of_z}
use mir.Facts.{to_z-of_z}
use Rattle.integers.proofs.Machine.{bounded_absolute, fits}
use Rattle.question.specs.Refusals.{is_number}
use Rattle.pieces.specs.declared.WholePiece.{WholePiece}
use Rattle.pieces.specs.inner.PieceSizes.{most_constant, PieceSizes}
use Rattle.screen.proofs.WholeFloats.{cast_exact}
use Rattle.screen.proofs.Evaluation.{number_zero}

-- the constant's bound is the largest of a piece's
module _ (z : ℤ) (h : nat_abs z ≤ most_constant) where
  pub stored : to_z w64 (of_z w64 z) ≡ z
  stored = to_z-of_z (fits (bounded_absolute z most_constant h) tt)

  pub stored_cast : T (in_float binary64 (to_z w64 (of_z w64 z)))
  stored_cast = subst (λ (x : ℤ). T (in_float binary64 x)) (sym stored) (cast_exact z (omega arith))

  pub stored_zero : of_z w64 z ≡ 0 → is_number (pos 0) z ≡ true
  stored_zero e = ap (is_number (pos 0)) (sym stored ∙ ap (to_z w64) e)

  pub stored_other : ¬ (of_z w64 z ≡ 0) → is_number (pos 0) z ≡ false
  stored_other other = go (is_number (pos 0) z) refl
    where
      go : (b : Bool) → is_number (pos 0) z ≡ b → b ≡ false
      go true e = absurd (other (ap (of_z w64) (number_zero z (subst T (sym e) tt))))
      go false e = refl

module _ (p : WholePiece) (z : PieceSizes p) where
  pub square_size : nat_abs p.square ≤ most_constant
  square_size = omega (arith, z.square_hi)

  pub linear_size : nat_abs p.linear ≤ most_constant
  linear_size = omega (arith, z.linear_hi)
