-- `moments::moment_at` meets its contract: the window's start is small.
use mathlib.Core.Path.{sym, subst}
use Rattle.window.proofs.EndsInReach.{Near, near_sized, window_start_near}
use Rattle.meaning.proofs.Instants.{compared_sized}
use Rattle.meaning.proofs.moments.moment_at.Goals as goal

pub same_time-requires : goal.same_time-requires
same_time-requires c =
    let question = c.args.question in (
      compared_sized c.args.t c.requires.compared,
      near_sized c.args.start (subst Near (sym c.requires.starts) (window_start_near question.sensed question.sizes)),
    )
