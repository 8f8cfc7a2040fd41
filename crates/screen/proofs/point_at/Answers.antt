-- `screen::point_at` meets its contract: the second's float is exact, and so is the height at it.
use mathlib.Core.Path.{◌≡◌, sym, ap, subst, ◌∙◌}
use lib.IntN.{pos}
use lib.Ieee.{Float}
use Rattle.instant.specs.Order.{◌÷◌}
use Rattle.path.proofs.SideSizes.{sized_of}
use Rattle.pieces.specs.Pieces.{piece_at}
use Rattle.pieces.specs.inner.PieceSizes.{PieceSizes}
use Rattle.pieces.proofs.Fields.{piece_at_sizes}
use Rattle.screen.specs.declared.Piece.{Piece}
use Rattle.screen.specs.declared.ScreenPoint.{ScreenPoint}
use Rattle.screen.specs.Floats.{float}
use Rattle.screen.specs.Drawings.{float_piece}
use Rattle.screen.specs.Points.{evaluated, drawn_height, point_at}
use Rattle.screen.proofs.Evaluation.{evaluated_exact}
use Rattle.screen.proofs.point_at.Goals as goal

same_point : {t h h' : Float} → h ≡ h' → ◌≡◌ {A = ScreenPoint} (record { time = t; height = h }) (record { time = t; height = h' })
same_point e = cc

pub float_piece-piece-requires : goal.float_piece-piece-requires
float_piece-piece-requires c = subst PieceSizes (sym c.piece_at.ensures) (piece_at_sizes c.args.asked.side c.args.asked.question.sensed (sized_of c.args.asked) (c.args.second ÷ 1))

pub returns : goal.returns
unfolding point_at drawn_height
returns c =
    let side = c.args.asked.side in
    let s = c.args.asked.question.sensed in
    let t = c.args.second in
    same_point
    (c.evaluate.ensures
    ∙ ap (λ (p : Piece). evaluated p (float (pos t))) (c.float_piece-piece.ensures ∙ ap float_piece c.piece_at.ensures)
    ∙ evaluated_exact (piece_at side s (t ÷ 1)) (piece_at_sizes side s (sized_of c.args.asked) (t ÷ 1)) t c.requires)
