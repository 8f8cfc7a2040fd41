-- `gaps::delay_above` meets its contract: what the bend gains fits.
use Rattle.integers.proofs.Machine.{read_product, read_stored, fits, result}
use Rattle.path.specs.declared.Side.TheVariants.{Lower}
use Rattle.window.proofs.Fields.{read_n}
use Rattle.conflict.proofs.Fields.{numbers, read_bend}
use Rattle.meaning.proofs.Fields.{within_size, curve_by}
use Rattle.meaning.proofs.gaps.delay_above.Goals as goal

pub overflow_mul-bend : goal.overflow_mul-bend
overflow_mul-bend c =
    let h = c.requires in
    let bend = read_bend c.args.asked.side c.args.asked.question c.delay_bend-bend.ensures in
    fits (search numbers depth 20) tt

pub overflow_mul-bend-2 : goal.overflow_mul-bend-2
overflow_mul-bend-2 c =
    let h = c.requires in
    let bend = read_bend c.args.asked.side c.args.asked.question c.delay_bend-bend.ensures in
    fits (search numbers depth 20) tt

pub curve-requires-clause-gained_size : goal.curve-requires-clause-gained_size
curve-requires-clause-gained_size c =
    let h = c.requires in
    let bend = read_bend c.args.asked.side c.args.asked.question c.delay_bend-bend.ensures in
    let n = read_n Lower c.args.t.n c.args.t.m h in
    within_size (read_stored (read_product (read_stored (read_product (read_stored bend) n)) n)) tt

pub returns-clause-is : goal.returns-clause-is
returns-clause-is c =
    let z = c.args.asked.question.sizes in
    let h = c.requires in
    let bend = read_bend c.args.asked.side c.args.asked.question c.delay_bend-bend.ensures in
    curve_by c.args.t.n c.args.t.m c.curve.ensures.is (result (search numbers depth 20) tt) (result (search numbers depth 20) tt) (result (search numbers depth 20) tt)
