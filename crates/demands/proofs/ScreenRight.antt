-- The demands of a drawing and of a screen point, of either path, from `screen`'s theorems: a piece's time as it is shown is its time as a fraction, and so are the order
-- of two and what lies between them. Assumes nothing.
use Rattle.std.specs.Prelude.{Err, None, Ok, Option, Result, Some, ⊤}
use mathlib.Core.Path.{◌≡◌, refl, sym, ap, subst, ◌∙◌}
use mathlib.Core.Bool.{Bool, true, false, cond}
use mathlib.Core.List.{List, [], ◌∷◌, ◌++◌}
use mathlib.Core.Logic.{◌↔◌, ⊎_elim}
use Prim.Native.Nat.{ℕ, ◌*◌, ◌+◌, ◌≤◌, ◌<◌}
use native.Mathlib.Omega.{arith}
use lib.Dec.{eqb}
use lib.ListN.{length}
use lib.IntN.{pos}
use Rattle.integers.proofs.Laws.{split≤}
use Rattle.instant.specs.declared.Instant.{Instant}
use Rattle.instant.specs.declared.Time.{Time}
use Rattle.instant.specs.Order.{◌÷◌, ◌≼◌, ◌≺◌, ◌≈◌}
use Rattle.instant.specs.LowestTerms.{shows, whole_time}
use Rattle.instant.specs.Lowest.{lowest}
use Rattle.instant.proofs.LowestTerms.{lowest_is, lowest_divisor_pos, lowest_same}
use Rattle.instant.proofs.TimeOrder.{≼_trans, ≈-≼, ≈-sym}
use Rattle.path.specs.declared.SensedQuestion.{SensedQuestion}
use Rattle.path.specs.declared.Side.{Side}
use Rattle.path.specs.declared.Side.TheVariants.{Lower, Upper}
use Rattle.path.specs.Letters.{d}
use Rattle.path.specs.inner.Sizes.{Sized}
use Rattle.conflict.specs.inner.Divided.{strength_of}
use Rattle.question.specs.declared.Encounter.{Encounter}
use Rattle.question.specs.declared.Settings.{Settings}
use Rattle.question.specs.declared.Question.{Question}
use Rattle.question.specs.Refusals.{is_number, refusal, two_sided}
use Rattle.sensed.specs.Sensed.{sensed_question}
use Rattle.sensed.proofs.AcceptedSizes.{accepted_sizes, accepted_upper_sizes}
use Rattle.pieces.specs.declared.WholePiece.{WholePiece}
use Rattle.pieces.specs.Pieces.{missing_speed, delay_piece, arc_piece, last_piece, unless, piece_at, piece_height}
use Rattle.pieces.specs.inner.PieceSizes.{PieceSizes}
use Rattle.pieces.specs.RightPieces.{path_of, InOrder, FollowPath, FromStart, meeting_times}
use Rattle.pieces.proofs.Fields.{strength_positive, delay_sizes, arc_sizes, last_sizes}
use Rattle.pieces.proofs.PathPieces.{right_pieces}
use Rattle.screen.specs.declared.Piece.{Piece}
use Rattle.screen.specs.declared.DrawnPiece.{DrawnPiece}
use Rattle.screen.specs.declared.Drawing.{Drawing}
use Rattle.screen.specs.Floats.{float}
use Rattle.screen.specs.Drawings.{float_piece, drawn_piece, all_drawn, drawn_pieces, content, upper_content, checked, screen_drawing, upper_drawing}
use Rattle.screen.specs.Points.{screen_point, upper_point}
use Rattle.screen.specs.RightScreen.{IsStraight, ExactPiece, ExactOnTheWay, RightPoint, RightPointAnswer, RightUpperAnswer}
use Rattle.screen.proofs.Evaluation.{evaluated_exact}
use Rattle.screen.proofs.DrawnPath.{exact_piece, accepted_second, second_above, refused_second, refused_drawing, two_sided_upper, no_upper, refused_upper, accepted_upper_second, no_upper_second, upper_second_above, refused_upper_second}
use Rattle.demands.specs.Screen.{HasCoefficients, BeforeNext, HasLength, DrawsStretch, EachDraws, StartsAt, later_times, changes, rule_changes, Kept, DrawsPath, RightlyDrawn, UpperRightlyDrawn, OnPath, RightlyPlaced, UpperRightlyPlaced}
use Rattle.question.specs.declared.refusal.Refusal.{Refusal}
use Rattle.question.specs.RefusalNumbers.{with_number}
use Rattle.screen.specs.declared.ScreenPoint.{ScreenPoint}

-- ---- the time shown of n/m
module _ (p : WholePiece) (h : 0 < p.from.m) where
  abbrev shown : Instant
  shown = shows (lowest p.from.n p.from.m)

  divisor : 0 < shown.m
  divisor = lowest_divisor_pos p.from.n p.from.m h

  same : shown ≈ p.from
  same = (lowest_is p.from.n p.from.m h).value

  since : (t : Instant) → shown ≼ t → p.from ≼ t
  since t l = ≼_trans p.from shown t divisor (≈-≼ p.from shown (≈-sym shown p.from same)) l

  until : (t : Instant) → t ≼ shown → t ≼ p.from
  until t l = ≼_trans t shown p.from divisor l (≈-≼ shown p.from same)

in_order : (p r : WholePiece) (hp : 0 < p.from.m) (hr : 0 < r.from.m) → p.from ≺ r.from → shown p hp ≺ shown r hr
in_order p r hp hr l =
    ⊎_elim (λ (k : shown r hr ≼ shown p hp). absurd (let b = until p hp r.from (since r hr (shown p hp) k) in omega (arith, l, b))) (λ (k : shown p hp ≺ shown r hr). k)
    (split≤ ((shown r hr).n * (shown p hp).m) ((shown p hp).n * (shown r hr).m))

-- ---- a piece's floats
module _ (p : WholePiece) where
  abbrev chosen : Bool → Piece
  chosen b = cond b (Piece.Straight (float p.linear) (float p.constant)) (Piece.Arc (float p.square) (float p.linear) (float p.constant))

  has_coefficients : ExactPiece p → HasCoefficients (float_piece p) p.square p.linear p.constant
  has_coefficients x = go (is_number (pos 0) p.square) x.straight
    where
      go : (b : Bool) → (IsStraight (chosen b) ↔ (p.square ≡ pos 0)) → HasCoefficients (chosen b) p.square p.linear p.constant
      go true s = ((refl, x.linear), (refl, x.constant), s.0 tt)
      go false s = ((refl, x.square), (refl, x.linear), (refl, x.constant), λ e. s.1 e)

-- ---- a list of pieces
abbrev AllSized : List WholePiece → Type 0
AllSized [] = Unit {0}
AllSized (p ∷ l) = ((0 < p.from.m) × PieceSizes p) × AllSized l

module _ (side : Side) (s : SensedQuestion) where
  abbrev Follows : WholePiece → (Instant → Type 0) → Type 0
  Follows p Before = (n m : ℕ) → 1 ≤ m → p.from ≼ n ÷ m → Before (n ÷ m) → piece_height p n m ≡ path_of side s n m

  stretch : (p : WholePiece) (l : List DrawnPiece) → 0 < p.from.m → PieceSizes p → HasLength (drawn_piece p) l → Follows p (BeforeNext l) → DrawsStretch side s (drawn_piece p) l
  stretch p l h z long follows = record {
    square = p.square;
    linear = p.linear;
    constant = p.constant;
    coefficients = has_coefficients p (exact_piece p z);
    long = long;
    every_time = λ n m i from b. follows n m i (since p h (n ÷ m) from) b;
    every_second = λ t i from b. evaluated_exact p z t i ∙ ap float (follows t 1 (omega arith) (since p h (t ÷ 1) from) b);
  }

  each_draws : (l : List WholePiece) → AllSized l → InOrder l → FollowPath side s l → EachDraws side s (all_drawn l)
  each_draws [] z o f = tt
  each_draws (p ∷ []) z o f = (stretch p [] z.0.0 z.0.1 tt (λ n m i from b. f n m i from), tt)
  each_draws (p ∷ r ∷ l) z o f = (
    stretch p (all_drawn (r ∷ l)) z.0.0 z.0.1 (in_order p r z.0.0 z.1.0.0 o.0) (λ n m i from b. f.0 n m i from (until r z.1.0.0 (n ÷ m) b)),
    each_draws (r ∷ l) z.1 o.1 f.1,
  )

starts : (l : List WholePiece) → AllSized l → FromStart l → StartsAt (whole_time 0) (all_drawn l)
starts [] z h = h
starts (p ∷ l) z h = (lowest_same p.from.n p.from.m 0 1 z.0.0 (omega arith)).1 h

later_times_lem : (l : List WholePiece) → later_times (all_drawn l) ≡ meeting_times l
later_times_lem [] = refl
later_times_lem (p ∷ []) = refl
later_times_lem (p ∷ r ∷ l) = ap (λ (t : List Time). lowest r.from.n r.from.m ∷ t) (later_times_lem (r ∷ l))

-- ---- the pieces of a side
module _ (side : Side) (s : SensedQuestion) where
  abbrev list : Bool → Bool → List WholePiece
  list b c = unless b (delay_piece side s) (unless c (arc_piece side s) (last_piece side s ∷ []))

  few : (b c : Bool) → length (all_drawn (list b c)) ≤ 3
  few true true = omega arith
  few true false = omega arith
  few false true = omega arith
  few false false = omega arith

  some : (b c : Bool) → 0 < length (all_drawn (list b c))
  some true true = omega arith
  some true false = omega arith
  some false true = omega arith
  some false false = omega arith

  pub at_least_one : 0 < length (drawn_pieces side s)
  unfolding drawn_pieces
  at_least_one = some (eqb (d s) 0) (eqb (missing_speed side s) 0)

  pub at_most_three : length (drawn_pieces side s) ≤ 3
  unfolding drawn_pieces
  at_most_three = few (eqb (d s) 0) (eqb (missing_speed side s) 0)

module _ (side : Side) (s : SensedQuestion) (z : Sized side s) where
  positive : 0 < strength_of side s
  positive = strength_positive side s z

  -- the times at which the path changes rule are those of the customer's letters, kept in lowest terms
  changes_of : (x : Side) → changes (d s) (strength_of x s) (missing_speed x s) ≡ rule_changes x s
  changes_of Lower = refl
  changes_of Upper = refl

  kept : (b c : Bool) → Kept (unless b (lowest (d s) 1) (unless c (lowest (d s * strength_of side s + missing_speed side s) (strength_of side s)) [])) (cond b [] ((d s ÷ 1) ∷ []) ++ cond c [] ((d s * strength_of side s + missing_speed side s ÷ strength_of side s) ∷ []))
  kept true true = tt
  kept true false = (lowest_is (d s * strength_of side s + missing_speed side s) (strength_of side s) positive, tt)
  kept false true = (lowest_is (d s) 1 (omega arith), tt)
  kept false false = (lowest_is (d s) 1 (omega arith), (lowest_is (d s * strength_of side s + missing_speed side s) (strength_of side s) positive, tt))

  delay : (0 < (delay_piece side s).from.m) × PieceSizes (delay_piece side s)
  delay = (omega arith, delay_sizes side s z)

  arc : (0 < (arc_piece side s).from.m) × PieceSizes (arc_piece side s)
  arc = (omega arith, arc_sizes side s z)

  last : (0 < (last_piece side s).from.m) × PieceSizes (last_piece side s)
  last = (positive, last_sizes side s z)

  sized : (b c : Bool) → AllSized (list side s b c)
  sized true true = (last, tt)
  sized true false = (arc, (last, tt))
  sized false true = (delay, (last, tt))
  sized false false = (delay, (arc, (last, tt)))

  pub draws_path : DrawsPath side s (drawn_pieces side s)
  unfolding drawn_pieces
  draws_path =
      let b = eqb (d s) 0 in
      let c = eqb (missing_speed side s) 0 in
      let right = right_pieces side s positive in
      record {
        few = at_most_three side s;
        start = starts (list side s b c) (sized b c) right.start;
        meetings = subst (λ (k : List Instant). Kept (later_times (all_drawn (list side s b c))) k) (changes_of side)
            (subst (λ (l : List Time). Kept l (changes (d s) (strength_of side s) (missing_speed side s))) (sym (later_times_lem (list side s b c) ∙ right.meetings)) (kept b c));
        each = each_draws side s (list side s b c) (sized b c) right.order right.follow;
      }

-- ---- the entries
module _ (x : Encounter) (y : Settings) (z : Question) where
  abbrev asked : SensedQuestion
  asked = sensed_question x y z

  accepted_content : refusal x y z ≡ Ok tt → screen_drawing x y z ≡ Ok (drawn_pieces Lower asked)
  unfolding screen_drawing
  accepted_content e = ap (λ (k : Result ⊤ Refusal). checked k (drawn_pieces Lower asked)) e

  abbrev numbered : Result (List DrawnPiece) Refusal → Result (List DrawnPiece) ℕ
  numbered c = with_number c

  pub drawing_right : RightlyDrawn x y z (with_number (screen_drawing x y z))
  drawing_right = record {
    refused = λ why e. ap numbered (refused_drawing x y z why e);
    drawn = λ e. (drawn_pieces Lower asked, ap numbered (accepted_content e), draws_path Lower asked (accepted_sizes x y z e));
  }

  pub rightly_drawn : (d : Result Drawing Refusal) → content d ≡ screen_drawing x y z → RightlyDrawn x y z (with_number (content d))
  rightly_drawn d e = subst (RightlyDrawn x y z) (sym (ap numbered e)) drawing_right

  -- the upper path
  abbrev upper_numbered : Result (Option (List DrawnPiece)) Refusal → Result (Option (List DrawnPiece)) ℕ
  upper_numbered c = with_number c

  upper_sized : refusal x y z ≡ Ok tt → two_sided z ≡ true → Sized Upper asked
  upper_sized e two = (accepted_sizes x y z e, accepted_upper_sizes x y z e two)

  pub upper_drawing_right : UpperRightlyDrawn x y z (with_number (upper_drawing x y z))
  upper_drawing_right = record {
    refused = λ why e. ap upper_numbered (refused_upper x y z why e);
    one_sided = λ e one. ap upper_numbered (no_upper x y z e one);
    drawn = λ e two. (drawn_pieces Upper asked, ap upper_numbered (two_sided_upper x y z e two), draws_path Upper asked (upper_sized e two));
  }

  pub upper_rightly_drawn : (d : Result (Option Drawing) Refusal) → upper_content d ≡ upper_drawing x y z → UpperRightlyDrawn x y z (with_number (upper_content d))
  upper_rightly_drawn d e = subst (UpperRightlyDrawn x y z) (sym (ap upper_numbered e)) upper_drawing_right

  module _ (t : ℕ) where
    on_path : (side : Side) (p : ScreenPoint) → RightPoint side asked t p → OnPath side asked t p
    on_path side p h =
        let held = piece_at side asked (t ÷ 1) in
        record {
          time = (h.time, h.time_exact);
          height = (h.height, h.height_exact);
          way = subst (ExactOnTheWay held (float_piece held) (pos t)) (sym h.time) h.way;
        }

    placed : (r : Result ScreenPoint Refusal) → RightPointAnswer asked t r → (p : ScreenPoint) × (with_number r ≡ Ok p) × OnPath Lower asked t p
    placed (Err why) h = absurd h
    placed (Ok p) h = (p, refl, on_path Lower p h)

    abbrev point_numbered : Result ScreenPoint Refusal → Result ScreenPoint ℕ
    point_numbered r = with_number r

    pub point_right : RightlyPlaced x y z t (with_number (screen_point x y z t))
    point_right = record {
      refused = λ why e. ap point_numbered (refused_second x y z t why e);
      late = λ e l. ap point_numbered (second_above x y z t e l);
      drawn = λ e l. placed (screen_point x y z t) (accepted_second x y z t e l);
    }

    pub rightly_placed : (r : Result ScreenPoint Refusal) → r ≡ screen_point x y z t → RightlyPlaced x y z t (with_number r)
    rightly_placed r e = subst (RightlyPlaced x y z t) (sym (ap point_numbered e)) point_right

    -- the upper path
    upper_placed : (r : Result (Option ScreenPoint) Refusal) → RightUpperAnswer asked t r → (p : ScreenPoint) × (with_number r ≡ Ok (Some p)) × OnPath Upper asked t p
    upper_placed (Err why) h = absurd h
    upper_placed (Ok None) h = absurd h
    upper_placed (Ok (Some p)) h = (p, refl, on_path Upper p h)

    abbrev upper_point_numbered : Result (Option ScreenPoint) Refusal → Result (Option ScreenPoint) ℕ
    upper_point_numbered r = with_number r

    pub upper_point_right : UpperRightlyPlaced x y z t (with_number (upper_point x y z t))
    upper_point_right = record {
      refused = λ why e. ap upper_point_numbered (refused_upper_second x y z t why e);
      late = λ l e. ap upper_point_numbered (upper_second_above x y z t e l);
      one_sided = λ e one l. ap upper_point_numbered (no_upper_second x y z t e one l);
      drawn = λ e two l. upper_placed (upper_point x y z t) (accepted_upper_second x y z t e two l);
    }

    pub upper_rightly_placed : (r : Result (Option ScreenPoint) Refusal) → r ≡ upper_point x y z t → UpperRightlyPlaced x y z t (with_number r)
    upper_rightly_placed r e = subst (UpperRightlyPlaced x y z t) (sym (ap upper_point_numbered e)) upper_point_right
