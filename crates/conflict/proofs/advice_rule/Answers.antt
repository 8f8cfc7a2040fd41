-- `conflict::advice_rule` meets its contract: the edge fits, and each number is its side's.
use mathlib.Core.Path.{◌∙◌}
use borrow.Author.Rules.{sfits_of}
use Rattle.integers.proofs.Machine.{fits, result}
use Rattle.conflict.proofs.Fields.{read_call, same_rule, numbers, read_speed_after_delay, read_edge_height, rule_edge_is}
use Rattle.conflict.proofs.advice_rule.Goals as goal

pub overflow_mul-result : goal.overflow_mul-result
overflow_mul-result c = let edge = read_edge_height c.args.asked c.edge_height-edge.ensures in fits (search numbers depth 20) tt

pub overflow_add-result : goal.overflow_add-result
overflow_add-result c =
    let z = c.args.asked.question.sizes in
    let speed = read_speed_after_delay c.args.asked c.speed_after_delay-speed.ensures in
    fits (search numbers depth 20) tt

pub overflow_mul-result-2 : goal.overflow_mul-result-2
overflow_mul-result-2 c =
    let z = c.args.asked.question.sizes in
    let speed = read_speed_after_delay c.args.asked c.speed_after_delay-speed.ensures in
    fits (search numbers depth 20) tt

pub overflow_sub-result : goal.overflow_sub-result
overflow_sub-result c =
    let z = c.args.asked.question.sizes in
    let edge = read_edge_height c.args.asked c.edge_height-edge.ensures in
    let speed = read_speed_after_delay c.args.asked c.speed_after_delay-speed.ensures in
    fits (search numbers depth 20) tt

pub returns : goal.returns
returns c =
    let asked = c.args.asked in
    let z = asked.question.sizes in
    let edge = read_edge_height asked c.edge_height-edge.ensures in
    let speed = read_speed_after_delay asked c.speed_after_delay-speed.ensures in
    let target = read_call (sfits_of c.rule_target.type_inv) c.rule_target.ensures in
    same_rule c.rule_strength.ensures (result (search numbers depth 20) tt) (result (search numbers depth 20) tt)
    (result (search numbers depth 20) tt ∙ rule_edge_is asked.question.sensed z asked.side)
