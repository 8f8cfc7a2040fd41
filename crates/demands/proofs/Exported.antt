-- The numbers that C and Rust get hold the answer record, and the outcome of a sheet. Assumes nothing.
use Rattle.std.specs.Prelude.{Err, Ok, Result}
use mathlib.Core.Path.{◌≡◌, refl, ap, ◌∙◌}
use mathlib.Core.List.{List}
use Prim.Native.Nat.{ℕ}
use lib.ListN.{length}
use Rattle.question.specs.declared.refusal.Refusal.{Refusal}
use Rattle.question.specs.RefusalNumbers.{with_number}
use Rattle.question.specs.declared.Encounter.{Encounter}
use Rattle.question.specs.declared.Settings.{Settings}
use Rattle.question.specs.declared.Question.{Question}
use Rattle.verdict.specs.declared.Verdict.{Verdict}
use Rattle.verdict.specs.declared.Verdict.TheVariants.{Clear, Conflict, Conflicts}
use Rattle.judge.specs.Answers.{answer, answer_record}
use Rattle.sheet.specs.WholeSheet.{outcome, area_after}
use Rattle.binding.specs.declared.JudgeResult.{JudgeResult}
use Rattle.binding.specs.declared.SheetResult.{SheetResult}
use Rattle.binding.specs.Flat.{flat_answer, flat_outcome}
use Rattle.demands.specs.PlainAnswer.{record_in, RightlyExported}
use Rattle.demands.specs.Sheets.{SheetAnswered, outcome_in}
use Rattle.demands.proofs.RefusalNumbers.{number_held}
use Rattle.demands.proofs.PlainAnswers.{answer_right}
use Rattle.demands.proofs.SheetAnswers.{answered_by}

-- ---- an answer
record_held : (a : Result Verdict Refusal) → record_in (flat_answer a) ≡ answer_record a
record_held (Ok (Clear sides)) = refl
record_held (Ok (Conflict t)) = refl
record_held (Ok (Conflicts t u)) = refl
record_held (Err why) = refl

pub rightly_exported : (x : Encounter) (y : Settings) (z : Question) (out : JudgeResult) → out ≡ flat_answer (answer x y z) → RightlyExported x y z out
rightly_exported x y z out e = (answer x y z, ap record_in e ∙ record_held (answer x y z), answer_right x y z)

-- ---- an outcome
outcome_held : (o : Result ℕ Refusal) → outcome_in (flat_outcome o) ≡ with_number o
outcome_held (Ok written) = refl
outcome_held (Err why) = number_held why _

pub sheet_exported : (sheet before after : List ℕ) (out : SheetResult) → (out ≡ flat_outcome (outcome sheet (length before))) × (after ≡ area_after sheet before) → SheetAnswered sheet before after (outcome_in out)
sheet_exported sheet before after out e = answered_by sheet before after (outcome_in out) (ap outcome_in e.0 ∙ outcome_held (outcome sheet (length before))) e.1
