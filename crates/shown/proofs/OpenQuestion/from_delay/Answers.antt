-- `shown::OpenQuestion::from_delay` meets its contract: the delay's end has a conflict or not, and the rest is by the path's lowest point.
use Rattle.std.specs.Option.{option_to_list}
use mathlib.Core.Path.{sym, ◌∙◌}
use mathlib.Core.List.{◌++◌}
use Rattle.instant.specs.Order.{◌÷◌}
use Rattle.path.specs.declared.Side.TheVariants.{Lower}
use Rattle.path.specs.Window.{window_end}
use Rattle.shown.proofs.Steps.{hit, miss}
use Rattle.shown.specs.inner.Steps.{turning_of}
use Rattle.shown.proofs.OpenQuestion.from_delay.Goals as goal

pub returns-then-conflict_at_delay : goal.returns-then-conflict_at_delay
returns-then-conflict_at_delay c =
    let s = c.args.self.question.sensed in
    hit Lower s (s.delay ÷ 1) (option_to_list (turning_of s) ++ option_to_list (window_end s)) (sym c.conflict_at_delay.ensures ∙ c.if-conflict_at_delay.true)

pub returns : goal.returns
returns c =
    let s = c.args.self.question.sensed in
    c.from_lowest.ensures ∙ miss Lower s (s.delay ÷ 1) (option_to_list (turning_of s) ++ option_to_list (window_end s)) (sym c.conflict_at_delay.ensures ∙ c.if-conflict_at_delay.false)
