-- What is proved of each of M1 to M15.
use Rattle.std.specs.Prelude.{◌≡◌, Ok}
use Rattle.question.specs.declared.Question.{Question}
use Rattle.question.specs.StartingSettings.{starting_settings}
use Rattle.question.specs.Refusals.{refusal}
use Rattle.sensed.specs.Sensed.{sensed_question}
use Rattle.judge.specs.Answers.{answer, answer_record}
use Rattle.judge.specs.Demand3.{RightAnswer}
use Rattle.judge.specs.Examples.{Example}

-- An example asks a question that is accepted, its answer is the one in the table, and that is right about the paths as demand 3 has it.
pub record Proved (m : Example) : Type 0 where
  pub question : Question
  pub asked : m.question ≡ Ok question
  pub accepted : refusal m.encounter starting_settings question ≡ Ok tt
  pub answered : answer_record (answer m.encounter starting_settings question) ≡ m.answer
  pub right : RightAnswer question (sensed_question m.encounter starting_settings question) (answer m.encounter starting_settings question)
