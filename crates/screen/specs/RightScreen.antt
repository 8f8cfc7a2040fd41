-- What it is for a drawing and a screen point to be right: "the drawn height must equal the scaled path height, since every operation on the way is exact".
-- The scaled path height at a second t is 2 × a × f(t), upper 2 × b × j(t): `path_of side s t 1` (`pieces`, specs/RightPieces.antt).
use Rattle.std.specs.Prelude.{◌≡◌, List, [], ◌∷◌, ◌↔◌, ℕ, ◌^◌, ◌<◌, ℤ, pos, nat_abs, ◌+ℤ◌, ◌*ℤ◌, Float, Err, None, Ok, Option, Result, Some}
use Rattle.std.specs.Float.{binary64}
use Rattle.std.specs.Float.Ieee.{add, mul}
use Rattle.instant.specs.Order.{◌÷◌}
use Rattle.path.specs.declared.SensedQuestion.{SensedQuestion}
use Rattle.path.specs.declared.Side.{Side}
use Rattle.path.specs.declared.Side.TheVariants.{Lower, Upper}
use Rattle.pieces.specs.declared.WholePiece.{WholePiece}
use Rattle.pieces.specs.Pieces.{piece_at}
use Rattle.pieces.specs.RightPieces.{path_of, RightPieces}
use Rattle.screen.specs.declared.Piece.{Piece}
use Rattle.screen.specs.declared.DrawnPiece.{DrawnPiece}
use Rattle.screen.specs.declared.ScreenPoint.{ScreenPoint}
use Rattle.screen.specs.Floats.{float, Exactly}
use Rattle.screen.specs.Drawings.{float_piece, all_drawn}
use Rattle.question.specs.declared.refusal.Refusal.{Refusal}

-- "a piece is a straight exactly if its t² has coefficient 0"
abbrev pub IsStraight : Piece → Type 0
IsStraight (Piece.Straight y z) = Unit {0}
IsStraight (Piece.Arc x y z) = ⊥

-- a piece's coefficients are exactly its whole numbers
pub record ExactPiece (p : WholePiece) : Type 0 where
  pub square : Exactly (float p.square) p.square
  pub linear : Exactly (float p.linear) p.linear
  pub constant : Exactly (float p.constant) p.constant
  pub straight : IsStraight (float_piece p) ↔ (p.square ≡ pos 0)

abbrev pub AllExact : List WholePiece → Type 0
AllExact [] = Unit {0}
AllExact (p ∷ l) = ExactPiece p × AllExact l

-- the pieces drawn are those of whole pieces that split the path
pub record RightDrawing (side : Side) (s : SensedQuestion) (l : List DrawnPiece) : Type 0 where
  pub whole : List WholePiece
  pub same : l ≡ all_drawn whole
  pub right : RightPieces side s whole
  pub exact : AllExact whole

abbrev pub RightContent : SensedQuestion → Result (List DrawnPiece) Refusal → Type 0
RightContent s (Ok l) = RightDrawing Lower s l
RightContent s (Err why) = ⊥

-- of the upper path, which is drawn
abbrev pub RightUpperContent : SensedQuestion → Result (Option (List DrawnPiece)) Refusal → Type 0
RightUpperContent s (Ok (Some l)) = RightDrawing Upper s l
RightUpperContent s (Ok None) = ⊥
RightUpperContent s (Err why) = ⊥

-- "every operation on the way is exact": each product and each sum of a piece at the second t
abbrev pub ExactOnTheWay : WholePiece → Piece → ℤ → Float → Type 0
ExactOnTheWay p (Piece.Straight y z) t x = Exactly (mul binary64 y x) (p.linear *ℤ t) × Exactly (add binary64 (mul binary64 y x) z) (p.linear *ℤ t +ℤ p.constant)
ExactOnTheWay p (Piece.Arc w y z) t x =
    Exactly (mul binary64 w x) (p.square *ℤ t)
    × Exactly (add binary64 (mul binary64 w x) y) (p.square *ℤ t +ℤ p.linear)
    × Exactly (mul binary64 (add binary64 (mul binary64 w x) y) x) ((p.square *ℤ t +ℤ p.linear) *ℤ t)
    × Exactly (add binary64 (mul binary64 (add binary64 (mul binary64 w x) y) x) z) ((p.square *ℤ t +ℤ p.linear) *ℤ t +ℤ p.constant)

-- The time is the second, the height 2 × a × f there, upper 2 × b × j: each is that whole number's float, so a zero is +0, and its value is exactly that number. So is every
-- product and sum on the way.
pub record RightPoint (side : Side) (s : SensedQuestion) (t : ℕ) (p : ScreenPoint) : Type 0 where
  pub time : p.time ≡ float (pos t)
  pub height : p.height ≡ float (path_of side s t 1)
  pub time_exact : Exactly p.time (pos t)
  pub height_exact : Exactly p.height (path_of side s t 1)
  pub small : nat_abs (path_of side s t 1) < 2 ^ 53
  pub way : let held = piece_at side s (t ÷ 1) in ExactOnTheWay held (float_piece held) (pos t) (float (pos t))

abbrev pub RightPointAnswer : SensedQuestion → ℕ → Result ScreenPoint Refusal → Type 0
RightPointAnswer s t (Ok p) = RightPoint Lower s t p
RightPointAnswer s t (Err why) = ⊥

abbrev pub RightUpperAnswer : SensedQuestion → ℕ → Result (Option ScreenPoint) Refusal → Type 0
RightUpperAnswer s t (Ok (Some p)) = RightPoint Upper s t p
RightUpperAnswer s t (Ok None) = ⊥
RightUpperAnswer s t (Err why) = ⊥
