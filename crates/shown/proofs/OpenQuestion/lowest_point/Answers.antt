-- `shown::OpenQuestion::lowest_point` meets its contract: the turning instant and the window's start are in reach.
use mathlib.Core.Path.{sym, ◌∙◌, subst}
use Rattle.path.proofs.Reach.{lower_in_upper}
use Rattle.window.proofs.EndsInReach.{Near, near_sized, window_start_near}
use Rattle.shown.proofs.InstantsInReach.{turning_reach}
use Rattle.shown.proofs.OpenQuestion.lowest_point.Goals as goal

pub no_later-requires : goal.no_later-requires
no_later-requires c =
    let s = c.args.self.question.sensed in
    let z = c.args.self.question.sizes in
    let t = c.in-Some.t in (
      near_sized t (turning_reach s z t (sym c.turning_instant.ensures ∙ c.in-Some.is)),
      near_sized c.args.self.start (subst Near (sym c.args.self.starts) (window_start_near s z)),
    )

pub in_window-requires : goal.in_window-requires
in_window-requires c =
    lower_in_upper (turning_reach c.args.self.question.sensed c.args.self.question.sizes c.in-Some.t (sym c.turning_instant.ensures ∙ c.in-Some.is))
