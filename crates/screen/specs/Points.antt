-- "A screen point holds a time and a height as two 64-bit floats. For each whole second from 0 to 600 the drawn height must equal the scaled path height."
use Rattle.std.specs.Prelude.{[], ◌∷◌, ◌++◌, ℕ, leb, ℤ, pos, Float, Option, Result, ⊤}
use Rattle.std.specs.Bool.{then_some}
use Rattle.std.specs.Float.{binary64}
use Rattle.std.specs.Float.Ieee.{add, mul}
use Rattle.instant.specs.Order.{◌÷◌}
use Rattle.path.specs.declared.SensedQuestion.{SensedQuestion}
use Rattle.path.specs.declared.Side.{Side}
use Rattle.path.specs.declared.Side.TheVariants.{Lower, Upper}
use Rattle.question.specs.declared.Encounter.{Encounter}
use Rattle.question.specs.declared.Settings.{Settings}
use Rattle.question.specs.declared.Question.{Question}
use Rattle.question.specs.Refusals.{check, first_refusal, plain_checks, two_sided}
use Rattle.sensed.specs.Sensed.{sensed_question}
use Rattle.pieces.specs.Pieces.{height_after_delay, piece_at, last_second, piece_height}
use Rattle.screen.specs.declared.Piece.{Piece}
use Rattle.screen.specs.declared.ScreenPoint.{ScreenPoint}
use Rattle.screen.specs.Floats.{float}
use Rattle.screen.specs.Drawings.{checked}
use Rattle.question.specs.declared.refusal.Refusal.{Refusal}

-- a piece at the time t, in floats
unfoldable pub evaluated : Piece → Float → Float
evaluated (Piece.Arc square linear constant) t = add binary64 (mul binary64 (add binary64 (mul binary64 square t) linear) t) constant
evaluated (Piece.Straight linear constant) t = add binary64 (mul binary64 linear t) constant

-- the height drawn at a second, times 2 × a, upper 2 × b: that of the piece that holds there
unfoldable pub drawn_height : Side → SensedQuestion → ℕ → ℤ
unfolding height_after_delay
drawn_height side s t = piece_height (piece_at side s (t ÷ 1)) t 1

unfoldable pub point_at : Side → SensedQuestion → ℕ → ScreenPoint
unfolding drawn_height
point_at side s t = record { time = float (pos t); height = float (drawn_height side s t) }

-- "A second above 600 gets 6; the other refusals are those of the entry for plain numbers", which tests 6 last.
unfoldable pub point_refusal : Encounter → Settings → Question → ℕ → Result ⊤ Refusal
point_refusal x y z t = first_refusal (plain_checks x y z ++ (check Refusal.TimesOutside (leb t last_second) ∷ []))

unfoldable pub screen_point : Encounter → Settings → Question → ℕ → Result ScreenPoint Refusal
unfolding sensed_question point_at point_refusal
screen_point x y z t = checked (point_refusal x y z t) (point_at Lower (sensed_question x y z) t)

-- only a two-sided question has an upper path; a second above 600 gets 6 all the same
unfoldable pub upper_point : Encounter → Settings → Question → ℕ → Result (Option ScreenPoint) Refusal
unfolding sensed_question point_at point_refusal
upper_point x y z t = checked (point_refusal x y z t) (then_some (two_sided z) (point_at Upper (sensed_question x y z) t))
