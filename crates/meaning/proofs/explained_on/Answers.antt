-- `meaning::explained_on` meets its contract: an open window's start is the definition's, and a time shown is in reach.
use mathlib.Core.Path.{sym, ◌∙◌, subst}
use Rattle.path.proofs.SideSizes.{sized_of}
use Rattle.shown.specs.TimeRule.{Picks}
use Rattle.shown.proofs.OpenWindow.{opened_at}
use Rattle.shown.proofs.RulePicks.{rule_picks}
use Rattle.shown.proofs.InstantsInReach.{picked_compared}
use Rattle.meaning.proofs.explained_on.Goals as goal

pub explained_at-requires-clause-starts : goal.explained_at-requires-clause-starts
explained_at-requires-clause-starts c = (opened_at c.args.asked.question.sensed c.args.start c.requires).0

pub explained_at-requires-clause-compared : goal.explained_at-requires-clause-compared
explained_at-requires-clause-compared c =
    let asked = c.args.asked in
    let s = asked.question.sensed in
    let z = sized_of asked in
    picked_compared asked.side s z c.in-Some.t (subst (Picks asked.side s) (sym c.time_shown.ensures ∙ c.in-Some.is) (rule_picks asked.side s z))
