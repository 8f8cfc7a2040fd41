-- "The lesson screen draws the lower path beside the verdict": a drawing is a list of pieces with their times, or a refusal. The upper path of a two-sided question
-- is drawn the same way.
use Rattle.std.specs.Prelude.{cond, List, [], ◌∷◌, pos, Err, None, Ok, Option, Result, Some, ⊤}
use Rattle.std.specs.Bool.{then_some}
use Rattle.instant.specs.Lowest.{lowest}
use Rattle.path.specs.declared.SensedQuestion.{SensedQuestion}
use Rattle.path.specs.declared.Side.{Side}
use Rattle.path.specs.declared.Side.TheVariants.{Lower, Upper}
use Rattle.question.specs.declared.Encounter.{Encounter}
use Rattle.question.specs.declared.Settings.{Settings}
use Rattle.question.specs.declared.Question.{Question}
use Rattle.question.specs.Refusals.{is_number, refusal, two_sided}
use Rattle.sensed.specs.Sensed.{sensed_question}
use Rattle.pieces.specs.declared.WholePiece.{WholePiece}
use Rattle.pieces.specs.Pieces.{height_after_delay, pieces}
use Rattle.screen.specs.declared.Piece.{Piece}
use Rattle.screen.specs.declared.DrawnPiece.{DrawnPiece}
use Rattle.screen.specs.declared.Drawing.{Drawing}
use Rattle.screen.specs.Floats.{float}
use Rattle.question.specs.declared.refusal.Refusal.{Refusal}

-- "a piece is a straight exactly if its t² has coefficient 0"; "its coefficients in t as 64-bit floats"
abbrev pub float_piece : WholePiece → Piece
float_piece p = cond (is_number (pos 0) p.square) (Piece.Straight (float p.linear) (float p.constant)) (Piece.Arc (float p.square) (float p.linear) (float p.constant))

-- "at times kept as whole seconds, remainder and divisor", in lowest terms
abbrev pub drawn_piece : WholePiece → DrawnPiece
drawn_piece p = record { from = lowest p.from.n p.from.m; piece = float_piece p }

abbrev pub all_drawn : List WholePiece → List DrawnPiece
all_drawn [] = []
all_drawn (p ∷ l) = drawn_piece p ∷ all_drawn l

unfoldable pub drawn_pieces : Side → SensedQuestion → List DrawnPiece
unfolding height_after_delay
drawn_pieces side s = all_drawn (pieces side s)

-- the pieces of a drawing, in time's order
abbrev pub pieces_of : Drawing → List DrawnPiece
pieces_of (Drawing.One p) = p ∷ []
pieces_of (Drawing.Two p q) = p ∷ q ∷ []
pieces_of (Drawing.Three p q r) = p ∷ q ∷ r ∷ []

-- what an answer says: its pieces, or the refusal
abbrev pub content : Result Drawing Refusal → Result (List DrawnPiece) Refusal
content (Ok drawing) = Ok (pieces_of drawing)
content (Err why) = Err why

-- of the upper path also that there is none
abbrev pub upper_content : Result (Option Drawing) Refusal → Result (Option (List DrawnPiece)) Refusal
upper_content (Ok None) = Ok None
upper_content (Ok (Some drawing)) = Ok (Some (pieces_of drawing))
upper_content (Err why) = Err why

-- "the other refusals are those of the entry for plain numbers"
abbrev pub checked : {A : Type 0} → Result ⊤ Refusal → A → Result A Refusal
checked (Ok _) x = Ok x
checked (Err why) x = Err why

unfoldable pub screen_drawing : Encounter → Settings → Question → Result (List DrawnPiece) Refusal
unfolding refusal sensed_question drawn_pieces
screen_drawing x y z = checked (refusal x y z) (drawn_pieces Lower (sensed_question x y z))

-- only a two-sided question has an upper path
unfoldable pub upper_drawing : Encounter → Settings → Question → Result (Option (List DrawnPiece)) Refusal
unfolding refusal sensed_question drawn_pieces
upper_drawing x y z = checked (refusal x y z) (then_some (two_sided z) (drawn_pieces Upper (sensed_question x y z)))
