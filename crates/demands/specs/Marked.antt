-- "Marked for proof": M1 to M15. "These stand in one table, proved by a single result about the paths and verdicts."
use Rattle.std.specs.Prelude.{◌≡◌, map, Ok}
use Rattle.path.specs.Instants.{Among}
use Rattle.question.specs.declared.Encounter.{Encounter}
use Rattle.question.specs.declared.Settings.{Settings}
use Rattle.question.specs.declared.Question.{Question}
use Rattle.question.specs.StartingSettings.{starting_settings}
use Rattle.question.specs.Refusals.{refusal}
use Rattle.judge.specs.Answers.{answer, answer_record}
use Rattle.judge.specs.Examples.{Example, examples, delayed_examples}
use Rattle.judge.specs.Marked.{Proved}
use Rattle.judge.specs.Mirror.{mirrored, turned}
use Rattle.judge.proofs.ExampleAnswers.{answered}
use Rattle.judge.proofs.ExamplesHold as computed
use Rattle.judge.proofs.ExamplesRight as table
use Rattle.judge.proofs.Mirror as mirror
use Rattle.demands.specs.PlainAnswer.{RightlyAnswered}

-- What is proved of every row m of the table (`marked`, in proofs/MarkedAnswers.antt): it asks a question that is accepted, the answer is the one in the table,
-- and that is right about the paths, as the demands have it.
pub record Marked (m : Example) : Type 0 where
  pub question : Question
  pub asked : m.question ≡ Ok question
  pub accepted : refusal m.encounter starting_settings question ≡ Ok tt
  pub answered : answer_record (answer m.encounter starting_settings question) ≡ m.answer
  pub right : RightlyAnswered m.encounter starting_settings question (answer m.encounter starting_settings question)

-- and the same in the terms of `judge`'s own demand 3
pub marked_examples : (m : Example) → Among m examples → Proved m
marked_examples = table.all_proved

-- "M3: descend to −1,500, else as M1": with the sense turned and all heights and speeds negated, every accepted question has the same answer
pub mirrored_answer : (x : Encounter) (y : Settings) (z : Question) → refusal x y z ≡ Ok tt → answer (mirrored x) y (turned z) ≡ answer x y z
mirrored_answer = mirror.mirror_answer

-- "Two-sided with a slow pilot": the answers to three questions with a delay
pub delayed_answers : map answered delayed_examples ≡ map (λ (m : Example). m.answer) delayed_examples
delayed_answers = computed.delayed_hold
