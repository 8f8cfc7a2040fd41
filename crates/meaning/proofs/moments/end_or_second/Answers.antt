-- `moments::end_or_second` meets its contract: the window's end is small.
use mathlib.Core.Path.{sym, ◌∙◌}
use Rattle.path.specs.declared.Side.TheVariants.{Lower}
use Rattle.window.proofs.EndsInReach.{near_sized}
use Rattle.shown.proofs.InstantsInReach.{end_reach}
use Rattle.meaning.proofs.Instants.{compared_sized}
use Rattle.meaning.proofs.moments.end_or_second.Goals as goal

pub same_time-requires : goal.same_time-requires
same_time-requires c =
    let question = c.args.question in
    let end = c.in-Some.end in (
      compared_sized c.args.t c.requires,
      near_sized end (end_reach Lower question.sensed question.sizes end (sym c.window_end.ensures ∙ c.in-Some.is)),
    )
