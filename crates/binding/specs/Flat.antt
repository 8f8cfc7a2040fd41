-- An answer and an outcome as structs of numbers, as they cross to C and Rust: an answer record's kind and numbers, with 0 in the fields that the kind does
-- not use.
use Rattle.std.specs.Prelude.{ℕ, Err, Ok, Result}
use Rattle.instant.specs.declared.Time.{Time}
use Rattle.instant.specs.Lowest.{no_time}
use Rattle.verdict.specs.declared.Verdict.{Verdict}
use Rattle.verdict.specs.declared.Verdict.TheVariants.{Clear, Conflict, Conflicts}
use Rattle.judge.specs.Answers.{sides_number}
use Rattle.binding.specs.declared.JudgeResult.{JudgeResult}
use Rattle.binding.specs.declared.SheetResult.{SheetResult}
use Rattle.question.specs.declared.refusal.Refusal.{Refusal}
use Rattle.question.specs.RefusalNumbers.{refusal_number}

-- The number is, in kind 65, "1 lower side clear, 2 upper, 3 both", and in kind 68 "the refusal number".
abbrev pub with_times : ℕ → ℕ → Time → Time → JudgeResult
with_times kind number lower upper = record {
  kind = kind;
  number = number;
  lower_seconds = lower.seconds;
  lower_remainder = lower.remainder;
  lower_divisor = lower.divisor;
  upper_seconds = upper.seconds;
  upper_remainder = upper.remainder;
  upper_divisor = upper.divisor;
}

abbrev pub flat_verdict : Verdict → JudgeResult
flat_verdict (Clear sides) = with_times 65 (sides_number sides) no_time no_time
flat_verdict (Conflict t) = with_times 66 0 t no_time
flat_verdict (Conflicts t u) = with_times 67 0 t u

abbrev pub flat_answer : Result Verdict Refusal → JudgeResult
flat_answer (Ok v) = flat_verdict v
flat_answer (Err why) = with_times 68 (refusal_number why) no_time no_time

-- an accepted sheet's length, or a refused sheet's number
abbrev pub flat_outcome : Result ℕ Refusal → SheetResult
flat_outcome (Ok written) = record { refusal = 0; length = written }
flat_outcome (Err why) = record { refusal = refusal_number why; length = 0 }
