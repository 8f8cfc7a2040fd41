-- Definitions that only proofs and inner contracts use; an instructor need not read them.
-- What it is for a formula to be the judge's clear on a one-sided question.
use Rattle.std.specs.Prelude.{◌≡◌, ◌↔◌, ℕ, Ok, Result}
use Rattle.std.specs.Prelude.{Some}
use Rattle.advisory.specs.declared.Instruction.{Instruction}
use Rattle.advisory.specs.Table1.{printed_at}
use Rattle.question.specs.declared.Encounter.{Encounter}
use Rattle.question.specs.declared.Settings.{Settings}
use Rattle.question.specs.declared.Question.{Question}
use Rattle.verdict.specs.declared.ClearSides.{ClearSides}
use Rattle.verdict.specs.declared.Verdict.{Verdict}
use Rattle.question.specs.Refusals.{refusal}
use Rattle.limits.specs.Limits.{no_limit}
use Rattle.sensed.specs.Sensed.{sensed_question}
use Rattle.coded.specs.Coded.{coded_question}
use Rattle.verdict.specs.Verdicts.{verdict}
use Rattle.judge.specs.Answers.{answer, answer_record}
use Rattle.region.specs.Formula.{Formula, Says}
use Rattle.region.specs.JudgedRegion.{clear_record, advisory_region}
use Rattle.question.specs.declared.refusal.Refusal.{Refusal}

-- clear as verdict and as answer
abbrev pub clear_verdict : Verdict
clear_verdict = Verdict.Clear ClearSides.Lower

abbrev pub clear_answer : Result Verdict Refusal
clear_answer = Ok clear_verdict

-- The judge says clear exactly if the formula holds: its verdict, its answer, and every result that has the answer's record, which is what the entry
-- for plain numbers promises of its own
pub record ClearExactly (x : Encounter) (y : Settings) (z : Question) (region : Formula) : Type 0 where
  pub by_verdict : (verdict z (sensed_question x y z) ≡ clear_verdict) ↔ Says region
  pub by_answer : (answer x y z ≡ clear_answer) ↔ Says region
  pub by_result : (result : Result Verdict Refusal) → answer_record result ≡ answer_record (answer x y z) → (answer_record result ≡ clear_record) ↔ Says region

-- A code without a limit asks a question that the judge accepts, and calls clear exactly in the region of the code's line of Table 1
pub record CodeClearExactly (x : Encounter) (y : Settings) (code : ℕ) : Type 0 where
  pub line : Instruction
  pub in_table_1 : printed_at code ≡ Some line
  pub question : Question
  pub asked : coded_question code x.speed no_limit ≡ Ok question
  pub accepted : refusal x y question ≡ Ok tt
  pub clear : ClearExactly x y question (advisory_region x y line)
