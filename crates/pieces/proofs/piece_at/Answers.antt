-- `pieces::piece_at` meets its contract: the code tries the pieces in the definition's order.
use mathlib.Core.Path.{sym, subst}
use native.Mathlib.Omega.{arith}
use Rattle.instant.specs.inner.Sizes.{SizedInstant}
use Rattle.path.proofs.SideSizes.{sized_of}
use Rattle.pieces.specs.declared.WholePiece.{WholePiece}
use Rattle.pieces.proofs.Fields.{last_from_sized}
use Rattle.pieces.proofs.piece_at.Goals as goal

pub no_later-requires : goal.no_later-requires
no_later-requires c =
    let asked = c.args.asked in
    (subst (λ (p : WholePiece). SizedInstant p.from) (sym c.last_piece-last.ensures) (last_from_sized asked.side asked.question.sensed (sized_of asked)), record { n = omega (arith, c.requires); m = omega arith })
