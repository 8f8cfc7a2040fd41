-- The answer to a question of plain numbers, and document 01's number and values for each answer ("Answer records").
use Rattle.std.specs.Prelude.{List, [], ◌∷◌, ◌++◌, ℕ, Err, Ok, Result, ⊤}
use Rattle.instant.specs.declared.Time.{Time}
use Rattle.question.specs.declared.Encounter.{Encounter}
use Rattle.question.specs.declared.Settings.{Settings}
use Rattle.question.specs.declared.Question.{Question}
use Rattle.verdict.specs.declared.ClearSides.{ClearSides}
use Rattle.verdict.specs.declared.Verdict.{Verdict}
use Rattle.verdict.specs.declared.Verdict.TheVariants.{Clear, Conflict, Conflicts}
use Rattle.question.specs.RefusalNumbers.{refusal_number}
use Rattle.question.specs.Refusals.{refusal}
use Rattle.sensed.specs.Sensed.{sensed_question}
use Rattle.verdict.specs.Verdicts.{verdict}
use Rattle.question.specs.declared.refusal.Refusal.{Refusal}

-- refused, or else judged
abbrev pub checked_answer : Result ⊤ Refusal → Verdict → Result Verdict Refusal
checked_answer (Ok _) v = Ok v
checked_answer (Err why) v = Err why

unfoldable pub answer : Encounter → Settings → Question → Result Verdict Refusal
unfolding refusal sensed_question verdict
answer x y z = checked_answer (refusal x y z) (verdict z (sensed_question x y z))

-- an answer record: its kind, and the numbers of its body
pub record AnswerRecord : Type 0 where
  pub kind : ℕ
  pub values : List ℕ

abbrev pub answers : ℕ → List ℕ → AnswerRecord
answers kind values = record { kind = kind; values = values }

-- "1 lower side clear, 2 upper, 3 both"
abbrev pub sides_number : ClearSides → ℕ
sides_number ClearSides.Lower = 1
sides_number ClearSides.Upper = 2
sides_number ClearSides.Both = 3

-- "whole seconds, remainder, divisor"
abbrev pub time_numbers : Time → List ℕ
time_numbers t = t.seconds ∷ t.remainder ∷ t.divisor ∷ []

-- "kind 65 clear, body 1 byte (1 lower side clear, 2 upper, 3 both; one-sided always 1); kind 66 one-sided conflict, whole seconds, remainder, divisor, 4
-- unsigned bytes each; kind 67 two such times, lower first; kind 68 one byte, the refusal number"
abbrev pub answer_record : Result Verdict Refusal → AnswerRecord
answer_record (Ok (Clear sides)) = answers 65 (sides_number sides ∷ [])
answer_record (Ok (Conflict t)) = answers 66 (time_numbers t)
answer_record (Ok (Conflicts t u)) = answers 67 (time_numbers t ++ time_numbers u)
answer_record (Err why) = answers 68 (refusal_number why ∷ [])
