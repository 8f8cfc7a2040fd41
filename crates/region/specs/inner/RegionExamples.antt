-- Definitions that only proofs and inner contracts use; an instructor need not read them.
-- The M examples that Figures 3 and 5 speak of, picked from the judge's table by a test, and what the figures say of each.
use Rattle.std.specs.Prelude.{◌≡◌, Bool, true, false, not, ◌&&◌, eqb, pos, Err, Ok, Result}
use Rattle.std.proofs.Math.Bool.{Bool-discrete}
use mathlib.Core.List.{List, filter}
use Rattle.path.specs.declared.SensedQuestion.{SensedQuestion}
use Rattle.question.specs.declared.Question.{Question}
use Rattle.question.specs.StartingSettings.{starting_settings}
use Rattle.question.specs.Refusals.{is_number, two_sided}
use Rattle.limits.specs.Limits.{no_limit}
use Rattle.sensed.specs.Sensed.{sensed_question}
use Rattle.judge.specs.Examples.{Example, examples}
use Rattle.region.specs.Formula.{Formula}
use Rattle.region.specs.inner.Holds.{holds}
use Rattle.question.specs.declared.refusal.Refusal.{Refusal}

-- Figure 5: one-sided, no limit; Figure 3: also no delay
abbrev pub delayed_allowed : Question → Bool
delayed_allowed z = not (two_sided z) && is_number no_limit z.limit

abbrev pub immediate_allowed : Question → Bool
immediate_allowed z = delayed_allowed z && is_number (pos 0) z.delay

-- a question is asked, by code or freely, and passes the test
abbrev pub asks : (Question → Bool) → Result Question Refusal → Bool
asks test (Ok z) = test z
asks test (Err why) = false

abbrev pub examples_with : (Question → Bool) → List Example
examples_with test = filter {p = λ (m : Example). asks test m.question ≡ true} (λ m. Bool-discrete (asks test m.question) true) examples

-- the example lies in the region
abbrev pub in_region : (SensedQuestion → Formula) → Example → Bool
in_region region m = asks (λ z. holds (region (sensed_question m.encounter starting_settings z))) m.question

-- "kind 65 clear"
abbrev pub is_clear : Example → Bool
is_clear m = eqb m.answer.kind 65
