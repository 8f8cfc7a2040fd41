-- `shown::from_search` meets its contract: on a departing path there is no search; else the second found is the definition's.
use mathlib.Core.Path.{sym, ◌∙◌}
use Rattle.shown.proofs.Steps.{departing, searchable, found}
use Rattle.shown.proofs.OpenWindow.{zero_in}
use Rattle.shown.proofs.from_search.Goals as goal

pub returns-then-not-approaching : goal.returns-then-not-approaching
returns-then-not-approaching c =
    departing c.args.asked.side c.args.asked.question.sensed c.requires.endless (zero_in c.args.asked.question.sensed c.requires.opened c.requires.endless) (sym c.approaching.ensures ∙ c.if-not-approaching.true)

pub first_second-requires : goal.first_second-requires
first_second-requires c =
    searchable c.args.asked.side c.args.asked.question.sensed c.requires.endless (zero_in c.args.asked.question.sensed c.requires.opened c.requires.endless) (sym c.approaching.ensures ∙ c.if-not-approaching.false) c.requires.tried

pub returns : goal.returns
returns c =
    sym c.first_second.ensures ∙ found c.args.asked.side c.args.asked.question.sensed c.requires.endless (zero_in c.args.asked.question.sensed c.requires.opened c.requires.endless) (sym c.approaching.ensures ∙ c.if-not-approaching.false)
