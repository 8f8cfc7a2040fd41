-- The examples' pieces and meeting times, by computation. Assumes nothing.
use mathlib.Core.Path.{◌≡◌, refl}
use lib.IntN.{pos}
use Rattle.path.specs.declared.Side.TheVariants.{Lower, Upper}
use Rattle.path.specs.Paths.{delay_height}
use Rattle.pieces.specs.Pieces.{height_after_delay, pieces}
use Rattle.pieces.specs.RightPieces.{meeting_times}
use Rattle.pieces.specs.Example.{example_question, example_pieces, example_meetings, upper_example_question, upper_example_pieces, kept_speed_pieces, upper_example_meetings}

pub example_pieces_lem : pieces Lower example_question ≡ example_pieces
unfolding height_after_delay delay_height
example_pieces_lem = refl

pub example_meetings_lem : meeting_times example_pieces ≡ example_meetings
example_meetings_lem = refl

pub upper_example_pieces_lem : pieces Upper (upper_example_question (pos 2500)) ≡ upper_example_pieces
unfolding height_after_delay delay_height
upper_example_pieces_lem = refl

pub kept_speed_pieces_lem : pieces Upper (upper_example_question (pos 100)) ≡ kept_speed_pieces
unfolding height_after_delay delay_height
kept_speed_pieces_lem = refl

pub upper_example_meetings_lem : meeting_times upper_example_pieces ≡ upper_example_meetings
upper_example_meetings_lem = refl
