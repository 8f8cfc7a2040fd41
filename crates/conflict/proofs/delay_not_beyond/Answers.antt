-- `conflict::delay_not_beyond` meets its contract: each product fits, and the comparison is the definition's.
use borrow.Author.Rules.{sfits_of}
use Rattle.integers.proofs.Machine.{fits, plain_call}
use Rattle.conflict.proofs.Fields.{read_call, numbers, read_edge_height}
use Rattle.conflict.proofs.delay_not_beyond.Goals as goal

pub overflow_mul-edge-2 : goal.overflow_mul-edge-2
overflow_mul-edge-2 c = let h = c.requires in fits (search numbers depth 20) tt

pub overflow_mul-edge-3 : goal.overflow_mul-edge-3
overflow_mul-edge-3 c =
    let z = c.args.asked.question.sizes in
    let h = c.requires in
    let edge = read_edge_height c.args.asked c.edge_height-edge.ensures in
    fits (search numbers depth 20) tt

pub returns : goal.returns
returns c =
    let z = c.args.asked.question.sizes in
    let h = c.requires in
    let height = read_call (sfits_of c.delay_height-height.type_inv) c.delay_height-height.ensures in
    let edge = read_edge_height c.args.asked c.edge_height-edge.ensures in
    plain_call c.height_not_beyond.ensures (search numbers depth 20) tt
