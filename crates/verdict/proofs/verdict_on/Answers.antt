-- `verdict::verdict_on` meets its contract: an accepted question has the sizes that each side asks for; in an empty window no side has a conflict time, and
-- else the verdict is that of the open window.
use Rattle.std.specs.Prelude.{None, Ok}
use mathlib.Core.Path.{◌≡◌, refl, sym, ap, ap₂, ◌∙◌, subst}
use mathlib.Core.Bool.{Bool, true, false, cond}
use Rattle.path.specs.declared.SensedQuestion.{SensedQuestion}
use Rattle.path.specs.declared.Side.TheVariants.{Lower, Upper}
use Rattle.path.specs.inner.Sizes.{Sizes, UpperSizes}
use Rattle.path.specs.inner.Tests.{opening}
use Rattle.shown.specs.TimeShown.{time_shown}
use Rattle.shown.proofs.OpenWindow.{empty_shown}
use Rattle.question.specs.declared.Encounter.{Encounter}
use Rattle.question.specs.declared.Settings.{Settings}
use Rattle.question.specs.declared.Question.{Question}
use Rattle.question.specs.Refusals.{two_sided, refusal}
use Rattle.sensed.specs.Sensed.{sensed_question}
use Rattle.verdict.specs.Verdicts.{one_sided_verdict, two_sided_verdict, verdict_of, verdict}
use Rattle.sensed.proofs.AcceptedSizes.{accepted_sizes, accepted_upper_sizes}
use Rattle.verdict.proofs.verdict_on.Goals as goal

-- the sizes of an accepted question, and those of its upper side if it has one
record Accepted (z : Question) (s : SensedQuestion) : Type 0 where
  sizes : Sizes s
  upper : two_sided z ≡ true → UpperSizes s

accepted_has : (x : Encounter) (y : Settings) (z : Question) (s : SensedQuestion) → refusal x y z ≡ Ok tt → s ≡ sensed_question x y z → Accepted z s
accepted_has x y z s accepted is = subst (Accepted z) (sym is) (record { sizes = accepted_sizes x y z accepted; upper = accepted_upper_sizes x y z accepted })

empty-is : (z : Question) (s : SensedQuestion) → Accepted z s → opening s ≡ None → verdict_of z None None ≡ verdict z s
unfolding verdict
empty-is z s h e = go (two_sided z) refl
  where
    go : (b : Bool) → two_sided z ≡ b → cond b (two_sided_verdict None None) (one_sided_verdict None) ≡ cond b (two_sided_verdict (time_shown Lower s) (time_shown Upper s)) (one_sided_verdict (time_shown Lower s))
    go true two = ap₂ two_sided_verdict (empty_shown s Lower h.sizes e) (empty_shown s Upper (h.sizes, h.upper two) e)
    go false two = ap one_sided_verdict (empty_shown s Lower h.sizes e)

pub open_verdict-requires-clause-upper_sizes : goal.open_verdict-requires-clause-upper_sizes
open_verdict-requires-clause-upper_sizes c = (accepted_has c.args.asked.encounter c.args.asked.settings c.args.asked.question _ c.args.asked.accepted c.sensed_question-s.ensures).upper

pub returns-in-None : goal.returns-in-None
returns-in-None c =
    let z = c.args.asked.question in
    let s = c.sensed_question-s in
    c.empty_verdict.ensures
    ∙ empty-is z s.result.sensed (accepted_has c.args.asked.encounter c.args.asked.settings z _ c.args.asked.accepted s.ensures) (sym c.opening.ensures ∙ c.in-None.is)
    ∙ ap (verdict z) s.ensures
