-- `screen::evaluate` meets its contract: by cases on the piece.
use mathlib.Core.Path.{sym, ap}
use Rattle.screen.specs.declared.Piece.{Piece}
use Rattle.screen.specs.Points.{evaluated}
use Rattle.screen.proofs.evaluate.Goals as goal

pub returns-in-Arc : goal.returns-in-Arc
unfolding evaluated
returns-in-Arc c = ap (λ (p : Piece). evaluated p c.args.t) (sym c.in-Arc.is)

pub returns-in-Straight : goal.returns-in-Straight
unfolding evaluated
returns-in-Straight c = ap (λ (p : Piece). evaluated p c.args.t) (sym c.in-Straight.is)
