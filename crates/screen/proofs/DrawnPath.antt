-- The drawing of an accepted question is right, and so is the point of each second from 0 to 600; all others are refused. Assumes nothing.
use Rattle.std.specs.Prelude.{Err, None, Ok, Option, Result, Some, ⊤}
use Rattle.std.specs.Bool.{then_some}
use mathlib.Core.Path.{◌≡◌, refl, sym, ap, ap₂, subst, ◌∙◌}
use mathlib.Core.Bool.{Bool, true, false, cond}
use mathlib.Core.List.{List, [], ◌∷◌}
use mathlib.Core.Logic.{◌↔◌}
use Prim.Native.Nat.{ℕ, ◌*◌, ◌+◌, ◌≤◌, ◌<◌}
use native.Mathlib.Omega.{arith}
use lib.Dec.{T, lit≤, eqb}
use lib.IntN.{ℤ, pos, nat_abs, ◌+ℤ◌, ◌*ℤ◌}
use lib.Ieee.{Float, binary64, add, mul}
use Rattle.instant.specs.Order.{◌÷◌}
use Rattle.path.specs.declared.SensedQuestion.{SensedQuestion}
use Rattle.path.specs.declared.Side.{Side}
use Rattle.path.specs.declared.Side.TheVariants.{Lower, Upper}
use Rattle.path.specs.Letters.{d}
use Rattle.path.specs.inner.Sizes.{Sized}
use Rattle.question.specs.declared.Encounter.{Encounter}
use Rattle.question.specs.declared.Settings.{Settings}
use Rattle.question.specs.declared.Question.{Question}
use Rattle.question.specs.Refusals.{is_number, refusal, two_sided}
use Rattle.sensed.specs.Sensed.{sensed_question}
use Rattle.sensed.proofs.AcceptedSizes.{accepted_sizes, accepted_upper_sizes}
use Rattle.pieces.specs.declared.WholePiece.{WholePiece}
use Rattle.pieces.specs.Pieces.{missing_speed, delay_piece, arc_piece, last_piece, unless, pieces, piece_at, last_second, piece_height}
use Rattle.pieces.specs.RightPieces.{path_of}
use Rattle.pieces.specs.inner.PieceSizes.{most_square, most_linear, most_constant, PieceSizes}
use Rattle.pieces.proofs.Fields.{strength_positive, delay_sizes, arc_sizes, last_sizes, piece_at_sizes}
use Rattle.pieces.proofs.PathPieces.{held_follows, right_pieces}
use Rattle.screen.specs.declared.Piece.{Piece}
use Rattle.screen.specs.declared.DrawnPiece.{DrawnPiece}
use Rattle.screen.specs.declared.Drawing.{Drawing}
use Rattle.screen.specs.Floats.{float, Exactly}
use Rattle.screen.specs.Drawings.{float_piece, drawn_pieces, pieces_of, content, upper_content, checked, screen_drawing, upper_drawing}
use Rattle.screen.specs.Points.{drawn_height, point_at, point_refusal, screen_point, upper_point}
use Rattle.screen.specs.RightScreen.{IsStraight, ExactPiece, AllExact, RightDrawing, RightContent, RightUpperContent, ExactOnTheWay, RightPoint, RightPointAnswer, RightUpperAnswer}
use Rattle.screen.proofs.WholeFloats.{float_exact}
use Rattle.screen.proofs.Evaluation.{most_middle, number_zero, step_product, step_sum, step_size, arc_height}
use Rattle.screen.proofs.PointChecks.{in_time_lem, late_second, refused_point}
use Rattle.question.specs.declared.refusal.Refusal.{Refusal}
use Rattle.screen.specs.declared.ScreenPoint.{ScreenPoint}

-- the largest height that a piece's bounds allow
abbrev most_height : ℕ
most_height = most_middle * last_second + most_constant

-- the float of a whole number that is small enough has its value
exactly : {x : Float} (k : ℤ) → nat_abs k ≤ most_height → x ≡ float k → Exactly x k
exactly k l e = subst (λ (y : Float). Exactly y k) (sym e) (float_exact k (omega arith))

-- ---- a piece
module _ (p : WholePiece) (z : PieceSizes p) where
  straight_if : IsStraight (float_piece p) ↔ (p.square ≡ pos 0)
  straight_if = go (is_number (pos 0) p.square) refl
    where
      go : (b : Bool) → is_number (pos 0) p.square ≡ b → IsStraight (cond b (Piece.Straight (float p.linear) (float p.constant)) (Piece.Arc (float p.square) (float p.linear) (float p.constant))) ↔ (p.square ≡ pos 0)
      go true e = (λ x. number_zero p.square (subst T (sym e) tt), λ x. tt)
      go false e = (λ x. absurd x, λ x. subst T e (subst (λ (k : ℤ). T (is_number (pos 0) k)) (sym x) tt))

  pub exact_piece : ExactPiece p
  exact_piece = record {
    square = float_exact p.square (omega (arith, z.square_hi));
    linear = float_exact p.linear (omega (arith, z.linear_hi));
    constant = float_exact p.constant (omega (arith, z.constant_hi));
    straight = straight_if;
  }

  module _ (t : ℕ) (h : t ≤ last_second) where
    height_size : nat_abs (piece_height p t 1) ≤ most_height
    height_size = subst (λ (k : ℤ). nat_abs k ≤ most_height) (arc_height p z t h)
        (step_size most_middle most_constant (p.square *ℤ pos t +ℤ p.linear) p.constant t (step_size most_square most_linear p.square p.linear t z.square_hi z.linear_hi h) z.constant_hi h)

    -- every product and every sum is exact; the sum of the first product and the linear coefficient is in the middle
    abbrev middle : ℤ
    middle = p.square *ℤ pos t +ℤ p.linear

    middle_size : nat_abs middle ≤ most_middle
    middle_size = step_size most_square most_linear p.square p.linear t z.square_hi z.linear_hi h

    middle_float : add binary64 (mul binary64 (float p.square) (float (pos t))) (float p.linear) ≡ float middle
    middle_float = step_sum most_square most_linear p.square p.linear t z.square_hi z.linear_hi h (lit≤ tt)

    pub exact_on_the_way : ExactOnTheWay p (float_piece p) (pos t) (float (pos t))
    exact_on_the_way = go (is_number (pos 0) p.square)
      where
        go : (b : Bool) → ExactOnTheWay p (cond b (Piece.Straight (float p.linear) (float p.constant)) (Piece.Arc (float p.square) (float p.linear) (float p.constant))) (pos t) (float (pos t))
        go true = (
          step_product most_linear most_constant p.linear p.constant t z.linear_hi z.constant_hi h (lit≤ tt),
          exactly (p.linear *ℤ pos t +ℤ p.constant) (omega (arith, step_size most_linear most_constant p.linear p.constant t z.linear_hi z.constant_hi h))
              (step_sum most_linear most_constant p.linear p.constant t z.linear_hi z.constant_hi h (lit≤ tt)),
        )
        go false = (
          step_product most_square most_linear p.square p.linear t z.square_hi z.linear_hi h (lit≤ tt),
          exactly middle (omega (arith, middle_size)) middle_float,
          subst (λ (y : Float). Exactly (mul binary64 y (float (pos t))) (middle *ℤ pos t)) (sym middle_float)
              (step_product most_middle most_constant middle p.constant t middle_size z.constant_hi h (lit≤ tt)),
          exactly (middle *ℤ pos t +ℤ p.constant) (step_size most_middle most_constant middle p.constant t middle_size z.constant_hi h)
              (ap (λ (y : Float). add binary64 (mul binary64 y (float (pos t))) (float p.constant)) middle_float
              ∙ step_sum most_middle most_constant middle p.constant t middle_size z.constant_hi h (lit≤ tt)),
        )

exact_unless : (b : Bool) (p : WholePiece) (l : List WholePiece) → ExactPiece p → AllExact l → AllExact (unless b p l)
exact_unless true p l h k = k
exact_unless false p l h k = (h, k)

-- ---- a side of a question
module _ (side : Side) (s : SensedQuestion) (z : Sized side s) where
  all_exact : (b c : Bool) → AllExact (unless b (delay_piece side s) (unless c (arc_piece side s) (last_piece side s ∷ [])))
  all_exact b c =
      let last = exact_piece (last_piece side s) (last_sizes side s z) in
      let later = exact_unless c (arc_piece side s) (last_piece side s ∷ []) (exact_piece (arc_piece side s) (arc_sizes side s z)) (last, tt) in
      exact_unless b (delay_piece side s) (unless c (arc_piece side s) (last_piece side s ∷ [])) (exact_piece (delay_piece side s) (delay_sizes side s z)) later

  pub right_drawing : RightDrawing side s (drawn_pieces side s)
  unfolding drawn_pieces
  right_drawing = record {
    whole = pieces side s;
    same = refl;
    right = right_pieces side s (strength_positive side s z);
    exact = all_exact (eqb (d s) 0) (eqb (missing_speed side s) 0);
  }

  module _ (t : ℕ) (h : t ≤ last_second) where
    follows : piece_height (piece_at side s (t ÷ 1)) t 1 ≡ path_of side s t 1
    follows = held_follows side s (strength_positive side s z) t 1 (omega arith)

    drawn_height_lem : drawn_height side s t ≡ path_of side s t 1
    unfolding drawn_height
    drawn_height_lem = follows

    height_small : nat_abs (path_of side s t 1) ≤ most_height
    height_small = subst (λ (k : ℤ). nat_abs k ≤ most_height) follows (height_size (piece_at side s (t ÷ 1)) (piece_at_sizes side s z (t ÷ 1)) t h)

    pub right_point : RightPoint side s t (point_at side s t)
    unfolding point_at
    right_point = record {
      time = refl;
      height = ap float drawn_height_lem;
      time_exact = float_exact (pos t) (omega arith);
      height_exact = subst (λ (k : ℤ). Exactly (float k) (path_of side s t 1)) (sym drawn_height_lem) (float_exact (path_of side s t 1) (omega (arith, height_small)));
      small = omega (arith, height_small);
      way = exact_on_the_way (piece_at side s (t ÷ 1)) (piece_at_sizes side s z (t ÷ 1)) t h;
    }

-- ---- an answer's content determines it
drawing_of : List DrawnPiece → DrawnPiece → Drawing
drawing_of [] other = Drawing.One other
drawing_of (p ∷ []) other = Drawing.One p
drawing_of (p ∷ q ∷ []) other = Drawing.Two p q
drawing_of (p ∷ q ∷ r ∷ l) other = Drawing.Three p q r

-- any piece, for a list that is no drawing's
first_piece : Drawing → DrawnPiece
first_piece (Drawing.One p) = p
first_piece (Drawing.Two p q) = p
first_piece (Drawing.Three p q r) = p

back : (d : Drawing) (other : DrawnPiece) → drawing_of (pieces_of d) other ≡ d
unfolding drawing_of
back (Drawing.One p) other = refl
back (Drawing.Two p q) other = refl
back (Drawing.Three p q r) other = refl

pieces_determine : (v w : Drawing) → pieces_of v ≡ pieces_of w → v ≡ w
pieces_determine v w e = let other = first_piece v in sym (back v other) ∙ ap (λ (l : List DrawnPiece). drawing_of l other) e ∙ back w other

pub content_determines : (r r' : Result Drawing Refusal) → content r ≡ content r' → r ≡ r'
content_determines (Ok v) (Ok w) e = ap {B = Result Drawing Refusal} Ok (pieces_determine v w cc)
content_determines (Ok v) (Err why) e = absurd (let z : ◌≡◌ {A = ℕ} 0 1 = cc in omega arith)
content_determines (Err why) (Ok v) e = absurd (let z : ◌≡◌ {A = ℕ} 0 1 = cc in omega arith)
content_determines (Err why) (Err why') e = cc

pub upper_content_determines : (r r' : Result (Option Drawing) Refusal) → upper_content r ≡ upper_content r' → r ≡ r'
upper_content_determines (Ok None) (Ok None) e = refl
upper_content_determines (Ok None) (Ok (Some w)) e = absurd cc
upper_content_determines (Ok None) (Err why) e = absurd cc
upper_content_determines (Ok (Some v)) (Ok None) e = absurd cc
upper_content_determines (Ok (Some v)) (Ok (Some w)) e = ap {B = Result (Option Drawing) Refusal} (λ d. Ok (Some d)) (pieces_determine v w cc)
upper_content_determines (Ok (Some v)) (Err why) e = absurd cc
upper_content_determines (Err why) (Ok None) e = absurd cc
upper_content_determines (Err why) (Ok (Some v)) e = absurd cc
upper_content_determines (Err why) (Err why') e = cc

-- ---- the entries: each accepted question is drawn, and each second of it up to 600; its upper path if it is two-sided
module _ (x : Encounter) (y : Settings) (z : Question) where
  abbrev s : SensedQuestion
  s = sensed_question x y z

  sized : refusal x y z ≡ Ok tt → two_sided z ≡ true → Sized Upper s
  sized e two = (accepted_sizes x y z e, accepted_upper_sizes x y z e two)

  pub accepted_drawing : refusal x y z ≡ Ok tt → RightContent s (screen_drawing x y z)
  unfolding screen_drawing
  accepted_drawing e = subst (λ (k : Result ⊤ Refusal). RightContent s (checked k (drawn_pieces Lower s))) (sym e) (right_drawing Lower s (accepted_sizes x y z e))

  pub refused_drawing : (n : Refusal) → refusal x y z ≡ Err n → screen_drawing x y z ≡ Err n
  unfolding screen_drawing
  refused_drawing n e = ap (λ (k : Result ⊤ Refusal). checked k (drawn_pieces Lower s)) e

  -- the upper path
  abbrev drawn_above : Bool → Result ⊤ Refusal → Result (Option (List DrawnPiece)) Refusal
  drawn_above b k = checked k (then_some b (drawn_pieces Upper s))

  upper_by : (b : Bool) (k : Result ⊤ Refusal) → two_sided z ≡ b → refusal x y z ≡ k → upper_drawing x y z ≡ drawn_above b k
  unfolding upper_drawing
  upper_by b k f e = ap₂ drawn_above f e

  pub two_sided_upper : refusal x y z ≡ Ok tt → two_sided z ≡ true → upper_drawing x y z ≡ Ok (Some (drawn_pieces Upper s))
  two_sided_upper e two = upper_by true (Ok tt) two e

  pub accepted_upper : refusal x y z ≡ Ok tt → two_sided z ≡ true → RightUpperContent s (upper_drawing x y z)
  accepted_upper e two = subst (RightUpperContent s) (sym (two_sided_upper e two)) (right_drawing Upper s (sized e two))

  pub no_upper : refusal x y z ≡ Ok tt → two_sided z ≡ false → upper_drawing x y z ≡ Ok None
  no_upper e one = upper_by false (Ok tt) one e

  pub refused_upper : (n : Refusal) → refusal x y z ≡ Err n → upper_drawing x y z ≡ Err n
  refused_upper n e = upper_by (two_sided z) (Err n) refl e

  module _ (t : ℕ) where
    abbrev answered : Result ⊤ Refusal → Result ScreenPoint Refusal
    answered k = checked k (point_at Lower s t)

    by_check : (k : Result ⊤ Refusal) → point_refusal x y z t ≡ k → screen_point x y z t ≡ answered k
    unfolding screen_point
    by_check k e = ap answered e

    pub accepted_second : refusal x y z ≡ Ok tt → t ≤ last_second → RightPointAnswer s t (screen_point x y z t)
    accepted_second e h = subst (RightPointAnswer s t) (sym (by_check (Ok tt) (in_time_lem x y z t e h))) (right_point Lower s (accepted_sizes x y z e) t h)

    pub second_above : refusal x y z ≡ Ok tt → last_second < t → screen_point x y z t ≡ Err Refusal.TimesOutside
    second_above e h = by_check (Err Refusal.TimesOutside) (late_second x y z t e h)

    pub refused_second : (n : Refusal) → refusal x y z ≡ Err n → screen_point x y z t ≡ Err n
    refused_second n e = by_check (Err n) (refused_point x y z t n e)

    -- the upper path
    abbrev answered_above : Bool → Result ⊤ Refusal → Result (Option ScreenPoint) Refusal
    answered_above b k = checked k (then_some b (point_at Upper s t))

    upper_by_check : (b : Bool) (k : Result ⊤ Refusal) → two_sided z ≡ b → point_refusal x y z t ≡ k → upper_point x y z t ≡ answered_above b k
    unfolding upper_point
    upper_by_check b k f e = ap₂ answered_above f e

    pub accepted_upper_second : refusal x y z ≡ Ok tt → two_sided z ≡ true → t ≤ last_second → RightUpperAnswer s t (upper_point x y z t)
    accepted_upper_second e two h = subst (RightUpperAnswer s t) (sym (upper_by_check true (Ok tt) two (in_time_lem x y z t e h))) (right_point Upper s (sized e two) t h)

    pub no_upper_second : refusal x y z ≡ Ok tt → two_sided z ≡ false → t ≤ last_second → upper_point x y z t ≡ Ok None
    no_upper_second e one h = upper_by_check false (Ok tt) one (in_time_lem x y z t e h)

    pub upper_second_above : refusal x y z ≡ Ok tt → last_second < t → upper_point x y z t ≡ Err Refusal.TimesOutside
    upper_second_above e h = upper_by_check (two_sided z) (Err Refusal.TimesOutside) refl (late_second x y z t e h)

    pub refused_upper_second : (n : Refusal) → refusal x y z ≡ Err n → upper_point x y z t ≡ Err n
    refused_upper_second n e = upper_by_check (two_sided z) (Err n) refl (refused_point x y z t n e)
