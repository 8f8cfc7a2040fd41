-- `gaps::gap_at` meets its contract: the sense turns the height, and the fraction is the definition's.
use mathlib.Core.Path.{◌∙◌}
use Rattle.integers.proofs.Machine.{bounded_absolute, equal_to, read_product, read_stored}
use Rattle.advisory.specs.Sign.{sign}
use Prim.Native.Nat.{◌^◌}
use Rattle.path.specs.declared.Side.TheVariants.{Lower}
use Rattle.path.proofs.Reach.{compared_in_upper}
use Rattle.path.proofs.SideSizes.{sized_of}
use Rattle.meaning.specs.Gaps.{gap_at}
use Rattle.meaning.proofs.Fields.{within_size, sign_small}
use Rattle.meaning.proofs.Sensed.{gap_by, sensed_gap}
use Rattle.meaning.proofs.gaps.gap_at.Goals as goal

pub gap_of-requires-clause-sized : goal.gap_of-requires-clause-sized
gap_of-requires-clause-sized c =
    let sized = c.height_above-n.ensures.sized in
    let sense = equal_to c.sign_of.ensures (bounded_absolute (sign c.args.sense) 1 (sign_small c.args.sense)) in
    let height = bounded_absolute c.height_above-n.result.n (2 ^ 62) sized.numerator in
    record { numerator = within_size (read_stored (read_product (read_stored sense) (read_stored height))) tt; divisor_lo = sized.divisor_lo; divisor_hi = sized.divisor_hi }

pub returns : goal.returns
unfolding gap_at
returns c =
    let asked = c.args.asked in
    let t = c.args.t in
    let sized = c.height_above-n.ensures.sized in
    let sense = equal_to c.sign_of.ensures (bounded_absolute (sign c.args.sense) 1 (sign_small c.args.sense)) in
    let height = bounded_absolute c.height_above-n.result.n (2 ^ 62) sized.numerator in
    gap_by (read_stored (read_product (read_stored sense) (read_stored height))) c.height_above-n.result.d asked.question.sensed.half_height c.gap_of.ensures tt
    ∙ sensed_gap c.args.sense asked.side asked.question.sensed t.n t.m (sized_of asked) (compared_in_upper Lower c.requires).m_lo c.height_above-n.result sized c.height_above-n.ensures.above
