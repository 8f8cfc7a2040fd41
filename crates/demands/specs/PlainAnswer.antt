-- What the demands ask of the answer to a question of plain numbers: an encounter x, settings y, a question z. Demand 1: each refusal has its number, condition
-- and effect; the entry for plain numbers writes no memory.
use Rattle.std.specs.Prelude.{◌≡◌, cond, true, false, List, [], ◌∷◌, ◌++◌, ℕ, eqb, pos, Err, Ok, Result}
use Rattle.question.specs.declared.Encounter.{Encounter}
use Rattle.question.specs.declared.Settings.{Settings}
use Rattle.question.specs.declared.Question.{Question}
use Rattle.question.specs.Refusals.{two_sided, refusal}
use Rattle.sensed.specs.Sensed.{sensed_question}
use Rattle.verdict.specs.declared.Verdict.{Verdict}
use Rattle.judge.specs.Answers.{AnswerRecord, answers, answer_record}
use Rattle.judge.proofs.WithoutDelay.{earlier_answer}
use Rattle.binding.specs.declared.JudgeResult.{JudgeResult}
use Rattle.demands.specs.Demand2.{Demand2}
use Rattle.demands.specs.Demand3.{Demand3}
use Rattle.demands.specs.Band.{ClearOutsideBand}
use Rattle.question.specs.declared.refusal.Refusal.{Refusal}

-- accepted: judged as demand 3 asks
abbrev pub JudgedAs : Encounter → Settings → Question → Result Verdict Refusal → Type 0
JudgedAs x y z answer = (verdict : Verdict) × (answer ≡ Ok verdict) × Demand3 (two_sided z) (sensed_question x y z) verdict

pub record RightlyAnswered (x : Encounter) (y : Settings) (z : Question) (answer : Result Verdict Refusal) : Type 0 where
  -- the first of 1, 2, 3, 4, 5, 14, 15, 16, 6 whose condition the numbers meet
  pub refused : (why : Refusal) → refusal x y z ≡ Err why → answer ≡ Err why
  pub judged : refusal x y z ≡ Ok tt → JudgedAs x y z answer
  pub one_sided_lem : refusal x y z ≡ Ok tt → two_sided z ≡ false → Demand2 x y z answer
  -- "The band between the paths" (document 02)
  pub two_sided_lem : refusal x y z ≡ Ok tt → two_sided z ≡ true → ClearOutsideBand x y z answer
  -- "With delay 0 all answers equal the earlier ones" (document 02, "Two-sided with a slow pilot")
  pub without_delay : z.delay ≡ pos 0 → answer ≡ earlier_answer x y z

-- the answer record in the struct of numbers that C and Rust get
abbrev pub lower_numbers : JudgeResult → List ℕ
lower_numbers f = f.lower_seconds ∷ f.lower_remainder ∷ f.lower_divisor ∷ []

abbrev pub upper_numbers : JudgeResult → List ℕ
upper_numbers f = f.upper_seconds ∷ f.upper_remainder ∷ f.upper_divisor ∷ []

abbrev pub values_in : JudgeResult → List ℕ
values_in f = cond (eqb f.kind 66) (lower_numbers f) (cond (eqb f.kind 67) (lower_numbers f ++ upper_numbers f) (f.number ∷ []))

abbrev pub record_in : JudgeResult → AnswerRecord
record_in f = answers f.kind (values_in f)

-- its numbers are those of a right answer's record
abbrev pub RightlyExported : Encounter → Settings → Question → JudgeResult → Type 0
RightlyExported x y z out = (answer : Result Verdict Refusal) × (record_in out ≡ answer_record answer) × RightlyAnswered x y z answer
