-- `shown::from_end` meets its contract: at the window's end the path decides, and without an end the search is left.
use mathlib.Core.Path.{sym, ◌∙◌}
use Rattle.path.proofs.SideSizes.{sized_of}
use Rattle.shown.proofs.InstantsInReach.{end_reach}
use Rattle.shown.proofs.OpenWindow.{end_shown, search_shown}
use Rattle.shown.proofs.from_end.Goals as goal

pub shown_at-requires : goal.shown_at-requires
shown_at-requires c =
    end_reach c.args.asked.side c.args.asked.question.sensed (sized_of c.args.asked) c.in-Some.t (sym c.window_end.ensures ∙ c.in-Some.is)

pub returns-in-None : goal.returns-in-None
returns-in-None c =
    c.from_search.ensures ∙ search_shown c.args.asked.question.sensed c.requires.opened c.args.asked.side (sym c.window_end.ensures ∙ c.in-None.is)

pub returns-in-Some : goal.returns-in-Some
returns-in-Some c =
    c.shown_at.ensures ∙ end_shown c.args.asked.question.sensed c.requires.opened c.args.asked.side c.in-Some.t (sym c.window_end.ensures ∙ c.in-Some.is)
