-- The judge's answer to an example.
use Rattle.std.specs.Prelude.{Err, Ok, Result}
use Rattle.question.specs.declared.Encounter.{Encounter}
use Rattle.question.specs.declared.Settings.{Settings}
use Rattle.question.specs.StartingSettings.{starting_settings}
use Rattle.judge.specs.Answers.{answer, AnswerRecord, answer_record}
use Rattle.judge.specs.Examples.{Example}
use Rattle.question.specs.declared.refusal.Refusal.{Refusal}
use Rattle.question.specs.declared.Question.{Question}
use Rattle.verdict.specs.declared.Verdict.{Verdict}

-- the answer to what is asked, freely or by code
abbrev pub answer_to : Encounter → Settings → Result Question Refusal → Result Verdict Refusal
answer_to x y (Ok z) = answer x y z
answer_to x y (Err n) = Err n

-- the answer record of an example
abbrev pub answered : Example → AnswerRecord
answered m = answer_record (answer_to m.encounter starting_settings m.question)
