-- A piece's height at a whole second, by floats: each product and each sum is of whole numbers below 2⁵³, and the height is the float of the piece's own.
-- Assumes nothing.
use mathlib.Core.Path.{◌≡◌, refl, sym, ap, subst, ◌∙◌}
use mathlib.Core.Bool.{Bool, true, false, cond}
use mathlib.Core.List.{[], ◌∷◌}
use Prim.Native.Nat.{ℕ, ◌+◌, ◌*◌, ◌^◌, ◌≤◌}
use native.Mathlib.Nat.{mul-le-mul}
use native.Mathlib.Omega.{arith}
use lib.Dec.{T, lit≤}
use lib.IntN.{ℤ, pos, nat_abs, ◌+ℤ◌, ◌*ℤ◌}
use lib.Ieee.{Float, binary64, add, mul}
use Rattle.integers.proofs.Quotation.{quote}
use Rattle.integers.proofs.Certificates.{ring, modulo}
use Rattle.integers.proofs.Laws.{≤ℤ_antisym}
use Rattle.integers.proofs.Machine.{machine, bounded_absolute, bounded_natural}
use Rattle.question.specs.Refusals.{is_number}
use Rattle.question.proofs.WithinLimits.{between}
use Rattle.window.proofs.Fields.{size}
use Rattle.pieces.specs.declared.WholePiece.{WholePiece}
use Rattle.pieces.specs.Pieces.{last_second, piece_height}
use Rattle.pieces.specs.inner.PieceSizes.{most_square, most_linear, most_constant, PieceSizes}
use Rattle.screen.specs.declared.Piece.{Piece}
use Rattle.screen.specs.Floats.{float, Exactly}
use Rattle.screen.specs.Drawings.{float_piece}
use Rattle.screen.specs.Points.{evaluated}
use Rattle.screen.proofs.WholeFloats.{float_exact, product_exact, sum_float}

-- z × t + w, where |z| is at most A, |w| at most B, and t at most the last second
module _ (A B : ℕ) (z w : ℤ) (t : ℕ) (hz : nat_abs z ≤ A) (hw : nat_abs w ≤ B) (ht : t ≤ last_second) where
  pub step_size : nat_abs (z *ℤ pos t +ℤ w) ≤ A * last_second + B
  step_size =
      let rz = bounded_absolute z A hz in
      let rw = bounded_absolute w B hw in
      let rt = bounded_natural t last_second ht in
      size (z *ℤ pos t +ℤ w) (search machine depth 20) tt

  product_size : nat_abs (z *ℤ pos t) ≤ A * last_second
  product_size =
      let rz = bounded_absolute z A hz in
      let rt = bounded_natural t last_second ht in
      size (z *ℤ pos t) (search machine depth 20) tt

  module _ (most : A * last_second + B ≤ 2 ^ 53) where
    pub step_product : Exactly (mul binary64 (float z) (float (pos t))) (z *ℤ pos t)
    step_product = product_exact (float_exact z (omega arith)) (float_exact (pos t) (omega arith)) (omega (arith, mul-le-mul hz ht))

    pub step_sum : add binary64 (mul binary64 (float z) (float (pos t))) (float w) ≡ float (z *ℤ pos t +ℤ w)
    step_sum = sum_float w step_product (omega (arith, product_size))

-- square × t + linear, in the middle of an arc's evaluation
abbrev pub most_middle : ℕ
most_middle = most_square * last_second + most_linear

-- ---- by whether the coefficient of t² is 0
pub number_zero : (x : ℤ) → T (is_number (pos 0) x) → x ≡ pos 0
number_zero x h = let b = between (pos 0) (pos 0) x h in ≤ℤ_antisym b.to b.from

module _ (p : WholePiece) (z : PieceSizes p) (t : ℕ) (ht : t ≤ last_second) where
  straight_height : p.square ≡ pos 0 → p.linear *ℤ pos t +ℤ p.constant ≡ piece_height p t 1
  straight_height e = sym (modulo (pos t *ℤ pos t) e (ring (t ∷ []) (p.square ∷ p.linear ∷ p.constant ∷ []) (λ v. search quote depth 20) tt))

  pub arc_height : (p.square *ℤ pos t +ℤ p.linear) *ℤ pos t +ℤ p.constant ≡ piece_height p t 1
  arc_height = ring (t ∷ []) (p.square ∷ p.linear ∷ p.constant ∷ []) (λ v. search quote depth 20) tt

  pub evaluated_exact : evaluated (float_piece p) (float (pos t)) ≡ float (piece_height p t 1)
  unfolding evaluated
  evaluated_exact = go (is_number (pos 0) p.square) refl
    where
      go : (b : Bool) → is_number (pos 0) p.square ≡ b
          → evaluated (cond b (Piece.Straight (float p.linear) (float p.constant)) (Piece.Arc (float p.square) (float p.linear) (float p.constant))) (float (pos t))
          ≡ float (piece_height p t 1)
      go true e =
          step_sum most_linear most_constant p.linear p.constant t z.linear_hi z.constant_hi ht (lit≤ tt)
          ∙ ap float (straight_height (number_zero p.square (subst T (sym e) tt)))
      go false e =
          ap (λ (x : Float). add binary64 (mul binary64 x (float (pos t))) (float p.constant)) (step_sum most_square most_linear p.square p.linear t z.square_hi z.linear_hi ht (lit≤ tt))
          ∙ step_sum most_middle most_constant (p.square *ℤ pos t +ℤ p.linear) p.constant t (step_size most_square most_linear p.square p.linear t z.square_hi z.linear_hi ht) z.constant_hi ht (lit≤ tt)
          ∙ ap float arc_height
