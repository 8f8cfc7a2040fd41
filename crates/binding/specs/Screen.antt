-- A drawing and a screen point as structs of numbers, as they cross to C and Rust, with 0 in the fields that are not used.
use Rattle.std.specs.Prelude.{List, [], ◌∷◌, ℕ, zero, suc, length, pos, Float, Err, None, Ok, Option, Result, Some}
use Rattle.instant.specs.declared.Time.{Time}
use Rattle.screen.specs.declared.Piece.{Piece}
use Rattle.screen.specs.declared.DrawnPiece.{DrawnPiece}
use Rattle.screen.specs.Floats.{float}
use Rattle.binding.specs.declared.PieceResult.{PieceResult}
use Rattle.binding.specs.declared.DrawingResult.{DrawingResult}
use Rattle.binding.specs.declared.PointResult.{PointResult}
use Rattle.binding.specs.declared.UpperPointResult.{UpperPointResult}
use Rattle.question.specs.declared.refusal.Refusal.{Refusal}
use Rattle.screen.specs.declared.ScreenPoint.{ScreenPoint}
use Rattle.question.specs.RefusalNumbers.{refusal_number}

-- +0
abbrev pub no_number : Float
no_number = float (pos 0)

-- a place in the drawing without a piece
abbrev pub no_piece : PieceResult
no_piece = record { kind = 0; seconds = 0; remainder = 0; divisor = 0; square = no_number; linear = no_number; constant = no_number }

-- "each piece is an arc or a straight": kind 2 or 1, the degree of an arc and of a straight
abbrev pub with_time : Time → Piece → PieceResult
with_time t (Piece.Arc square linear constant) = record {
  kind = 2;
  seconds = t.seconds;
  remainder = t.remainder;
  divisor = t.divisor;
  square = square;
  linear = linear;
  constant = constant;
}
with_time t (Piece.Straight linear constant) = record {
  kind = 1;
  seconds = t.seconds;
  remainder = t.remainder;
  divisor = t.divisor;
  square = no_number;
  linear = linear;
  constant = constant;
}

abbrev pub flat_piece : DrawnPiece → PieceResult
flat_piece p = with_time p.from p.piece

-- the piece at a place in the list, counted from 0
abbrev pub piece_in : List DrawnPiece → ℕ → PieceResult
piece_in [] i = no_piece
piece_in (p ∷ l) zero = flat_piece p
piece_in (p ∷ l) (suc i) = piece_in l i

-- "at most three pieces", or the refusal
abbrev pub flat_pieces : List DrawnPiece → DrawingResult
flat_pieces l = record { refusal = 0; pieces = length l; first = piece_in l 0; second = piece_in l 1; third = piece_in l 2 }

abbrev pub without_pieces : ℕ → DrawingResult
without_pieces number = record { refusal = number; pieces = 0; first = no_piece; second = no_piece; third = no_piece }

abbrev pub flat_content : Result (List DrawnPiece) Refusal → DrawingResult
flat_content (Err why) = without_pieces (refusal_number why)
flat_content (Ok l) = flat_pieces l

-- of the upper path also that it is not asked for
abbrev pub flat_upper_content : Result (Option (List DrawnPiece)) Refusal → DrawingResult
flat_upper_content (Err why) = without_pieces (refusal_number why)
flat_upper_content (Ok None) = without_pieces 0
flat_upper_content (Ok (Some l)) = flat_pieces l

-- "a time and a height as two 64-bit floats", or the refusal
abbrev pub flat_point : Result ScreenPoint Refusal → PointResult
flat_point (Err why) = record { refusal = refusal_number why; time = no_number; height = no_number }
flat_point (Ok p) = record { refusal = 0; time = p.time; height = p.height }

abbrev pub flat_upper_point : Result (Option ScreenPoint) Refusal → UpperPointResult
flat_upper_point (Err why) = record { refusal = refusal_number why; asked = 0; time = no_number; height = no_number }
flat_upper_point (Ok None) = record { refusal = 0; asked = 0; time = no_number; height = no_number }
flat_upper_point (Ok (Some p)) = record { refusal = 0; asked = 1; time = p.time; height = p.height }
