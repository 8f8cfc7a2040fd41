-- `shown::OpenQuestion::from_lowest` meets its contract: what the lowest point leaves to show is what the instants after d show.
use mathlib.Core.Path.{sym, ap, ◌∙◌}
use Rattle.shown.proofs.InstantsInReach.{turning_reach}
use Rattle.shown.proofs.OpenWindow.{after_lowest, lowest_shown, inside_turning}
use Rattle.shown.proofs.OpenQuestion.from_lowest.Goals as goal

pub shown_at-requires : goal.shown_at-requires
shown_at-requires c =
    let s = c.args.self.question.sensed in
    let t = c.in-Inside.t in
    turning_reach s c.args.self.question.sizes t (inside_turning s t (sym c.lowest_point.ensures ∙ c.in-Inside.is))

pub returns-in-Passed : goal.returns-in-Passed
returns-in-Passed c =
    ap (after_lowest c.args.self.question.sensed) (sym (sym c.lowest_point.ensures ∙ c.in-Passed.is)) ∙ lowest_shown c.args.self.question.sensed c.args.self.question.sizes c.args.self.opened c.requires.0

pub returns-in-Inside : goal.returns-in-Inside
returns-in-Inside c =
    c.shown_at.ensures ∙ ap (after_lowest c.args.self.question.sensed) (sym (sym c.lowest_point.ensures ∙ c.in-Inside.is)) ∙ lowest_shown c.args.self.question.sensed c.args.self.question.sizes c.args.self.opened c.requires.0

pub returns-in-Beyond : goal.returns-in-Beyond
returns-in-Beyond c =
    c.from_end.ensures ∙ ap (after_lowest c.args.self.question.sensed) (sym (sym c.lowest_point.ensures ∙ c.in-Beyond.is)) ∙ lowest_shown c.args.self.question.sensed c.args.self.question.sizes c.args.self.opened c.requires.0
