-- `verdict::open_verdict` meets its contract: the time shown on each side that is asked for gives the definition's verdict.
use mathlib.Core.Path.{sym, ap, ap₂, ◌∙◌}
use Rattle.question.specs.Refusals.{two_sided}
use Rattle.verdict.specs.Verdicts.{one_sided_verdict, two_sided_verdict, verdict}
use Rattle.std.proofs.lemmas.Bool.{cond-true, cond-false}
use Rattle.verdict.proofs.open_verdict.Goals as goal

pub returns-then-two_sided : goal.returns-then-two_sided
unfolding verdict
returns-then-two_sided c =
    c.two_sided_verdict.ensures
    ∙ ap₂ two_sided_verdict c.time_shown-lower.ensures c.time_shown-upper.ensures
    ∙ sym (cond-true (two_sided c.args.question) _ _ (sym c.two_sided.ensures ∙ c.if-two_sided.true))

pub returns : goal.returns
unfolding verdict
returns c =
    c.one_sided_verdict.ensures
    ∙ ap one_sided_verdict c.time_shown-lower.ensures
    ∙ sym (cond-false (two_sided c.args.question) _ _ (sym c.two_sided.ensures ∙ c.if-two_sided.false))
