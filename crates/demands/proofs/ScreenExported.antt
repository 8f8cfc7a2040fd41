-- The numbers that C and Rust get hold the drawing and the screen point: a drawing has at most three pieces. Assumes nothing.
use Rattle.std.specs.Prelude.{Err, None, Ok, Option, Result, Some, ⊤}
use Rattle.std.specs.Bool.{then_some}
use mathlib.Core.Path.{◌≡◌, refl, sym, ap, subst, ◌∙◌}
use mathlib.Core.Bool.{Bool, true, false}
use mathlib.Core.List.{List, [], ◌∷◌}
use Prim.Native.Nat.{ℕ, ◌<◌, ◌≤◌}
use native.Mathlib.Omega.{arith}
use borrow.Author.Tests.{ne_eqb}
use lib.Dec.{eqb}
use lib.ListN.{length}
use Rattle.std.proofs.lemmas.Bool.{cond-false}
use Rattle.instant.specs.declared.Time.{Time}
use Rattle.path.specs.declared.Side.TheVariants.{Lower, Upper}
use Rattle.question.specs.declared.Encounter.{Encounter}
use Rattle.question.specs.declared.Settings.{Settings}
use Rattle.question.specs.declared.Question.{Question}
use Rattle.question.specs.declared.refusal.Refusal.{Refusal}
use Rattle.question.specs.RefusalNumbers.{with_number}
use Rattle.question.specs.Refusals.{refusal, two_sided}
use Rattle.sensed.specs.Sensed.{sensed_question}
use Rattle.screen.specs.declared.Piece.{Piece}
use Rattle.screen.specs.declared.DrawnPiece.{DrawnPiece}
use Rattle.screen.specs.declared.ScreenPoint.{ScreenPoint}
use Rattle.screen.specs.Drawings.{drawn_pieces, checked, screen_drawing, upper_drawing}
use Rattle.screen.specs.Points.{screen_point, upper_point}
use Rattle.binding.specs.declared.DrawingResult.{DrawingResult}
use Rattle.binding.specs.declared.PointResult.{PointResult}
use Rattle.binding.specs.declared.UpperPointResult.{UpperPointResult}
use Rattle.binding.specs.Screen.{with_time, flat_piece, flat_pieces, flat_content, flat_upper_content, flat_point, flat_upper_point}
use Rattle.demands.specs.Screen.{piece_in, pieces_in, content_in, upper_content_in, point_in, upper_point_in, RightlyDrawn, UpperRightlyDrawn, RightlyPlaced, UpperRightlyPlaced}
use Rattle.demands.proofs.RefusalNumbers.{number_held}
use Rattle.demands.proofs.ScreenRight.{at_least_one, at_most_three, drawing_right, upper_drawing_right, point_right, upper_point_right}

-- ---- a drawing
time_held : (t : Time) (x : Piece) → piece_in (with_time t x) ≡ record { from = t; piece = x }
time_held t (Piece.Arc x y z) = refl
time_held t (Piece.Straight y z) = refl

piece_held : (p : DrawnPiece) → piece_in (flat_piece p) ≡ p
piece_held p = time_held p.from p.piece

pieces_held : (l : List DrawnPiece) → length l ≤ 3 → pieces_in (flat_pieces l) ≡ l
pieces_held [] h = refl
pieces_held (p ∷ []) h = ap (λ (x : DrawnPiece). x ∷ []) (piece_held p)
pieces_held (p ∷ q ∷ []) h = two (piece_held p) (piece_held q)
  where
    two : {x x' y y' : DrawnPiece} → x ≡ x' → y ≡ y' → ◌≡◌ {A = List DrawnPiece} (x ∷ y ∷ []) (x' ∷ y' ∷ [])
    two e f = cc
pieces_held (p ∷ q ∷ r ∷ []) h = three (piece_held p) (piece_held q) (piece_held r)
  where
    three : {x x' y y' z z' : DrawnPiece} → x ≡ x' → y ≡ y' → z ≡ z' → ◌≡◌ {A = List DrawnPiece} (x ∷ y ∷ z ∷ []) (x' ∷ y' ∷ z' ∷ [])
    three e f g = cc
pieces_held (p ∷ q ∷ r ∷ x ∷ l) h = absurd (omega (arith, h))

abbrev drawn : List DrawnPiece → Result (List DrawnPiece) ℕ
drawn l = Ok l

abbrev upper_drawn : List DrawnPiece → Result (Option (List DrawnPiece)) ℕ
upper_drawn l = Ok (Some l)

upper_pieces_held : (l : List DrawnPiece) → 0 < length l → length l ≤ 3 → upper_content_in (flat_pieces l) ≡ upper_drawn l
upper_pieces_held l some h =
    ap {B = Result (Option (List DrawnPiece)) ℕ} Ok (cond-false (eqb (length l) 0) None (Some (pieces_in (flat_pieces l))) (ne_eqb (length l) 0 (omega (arith, some))))
    ∙ ap upper_drawn (pieces_held l h)

content_held : (k : Result ⊤ Refusal) (l : List DrawnPiece) → length l ≤ 3 → content_in (flat_content (checked k l)) ≡ with_number (checked k l)
content_held (Ok _) l h = ap drawn (pieces_held l h)
content_held (Err why) l h = number_held why _

upper_content_held : (k : Result ⊤ Refusal) (two : Bool) (l : List DrawnPiece) → 0 < length l → length l ≤ 3
    → upper_content_in (flat_upper_content (checked k (then_some two l))) ≡ with_number (checked k (then_some two l))
upper_content_held (Ok _) true l some h = upper_pieces_held l some h
upper_content_held (Ok _) false l some h = refl
upper_content_held (Err why) two l some h = number_held why _

-- ---- a point
point_held : (r : Result ScreenPoint Refusal) → point_in (flat_point r) ≡ with_number r
point_held (Ok p) = refl
point_held (Err why) = number_held why _

upper_point_held : (r : Result (Option ScreenPoint) Refusal) → upper_point_in (flat_upper_point r) ≡ with_number r
upper_point_held (Ok None) = refl
upper_point_held (Ok (Some p)) = refl
upper_point_held (Err why) = number_held why _

module _ (x : Encounter) (y : Settings) (z : Question) where
  drawing_held : content_in (flat_content (screen_drawing x y z)) ≡ with_number (screen_drawing x y z)
  unfolding screen_drawing
  drawing_held = content_held (refusal x y z) (drawn_pieces Lower (sensed_question x y z)) (at_most_three Lower (sensed_question x y z))

  pub rightly_drawn : (out : DrawingResult) → out ≡ flat_content (screen_drawing x y z) → RightlyDrawn x y z (content_in out)
  rightly_drawn out e = subst (RightlyDrawn x y z) (sym (ap content_in e ∙ drawing_held)) (drawing_right x y z)

  pub rightly_placed : (t : ℕ) (out : PointResult) → out ≡ flat_point (screen_point x y z t) → RightlyPlaced x y z t (point_in out)
  rightly_placed t out e = subst (RightlyPlaced x y z t) (sym (ap point_in e ∙ point_held (screen_point x y z t))) (point_right x y z t)

  -- the upper path
  upper_drawing_held : upper_content_in (flat_upper_content (upper_drawing x y z)) ≡ with_number (upper_drawing x y z)
  unfolding upper_drawing
  upper_drawing_held =
      let s = sensed_question x y z in
      upper_content_held (refusal x y z) (two_sided z) (drawn_pieces Upper s) (at_least_one Upper s) (at_most_three Upper s)

  pub upper_rightly_drawn : (out : DrawingResult) → out ≡ flat_upper_content (upper_drawing x y z) → UpperRightlyDrawn x y z (upper_content_in out)
  upper_rightly_drawn out e = subst (UpperRightlyDrawn x y z) (sym (ap upper_content_in e ∙ upper_drawing_held)) (upper_drawing_right x y z)

  pub upper_rightly_placed : (t : ℕ) (out : UpperPointResult) → out ≡ flat_upper_point (upper_point x y z t) → UpperRightlyPlaced x y z t (upper_point_in out)
  upper_rightly_placed t out e = subst (UpperRightlyPlaced x y z t) (sym (ap upper_point_in e ∙ upper_point_held (upper_point x y z t))) (upper_point_right x y z t)
