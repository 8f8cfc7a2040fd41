-- `conflict::AdviceRule::arc_not_beyond` meets its contract: each product fits, and the comparison is the definition's.
use Prim.Native.Nat.{◌*◌}
use Rattle.integers.proofs.Machine.{bounded_word, fits, plain_call}
use Rattle.conflict.specs.inner.RuleSizes.{most_bend}
use Rattle.conflict.proofs.Fields.{numbers}
use Rattle.conflict.proofs.AdviceRule.arc_not_beyond.Goals as goal

pub overflow_mul-arc-3 : goal.overflow_mul-arc-3
overflow_mul-arc-3 c =
    let z = c.requires.rule_sizes in
    let h = c.requires.in_reach in
    let l = c.requires.before_straight in
    fits (search numbers depth 20) tt

pub overflow_add-arc : goal.overflow_add-arc
overflow_add-arc c =
    let z = c.requires.rule_sizes in
    let h = c.requires.in_reach in
    let l = c.requires.before_straight in
    let bend = bounded_word (c.args.self.strength * c.args.since.n * c.args.since.n) most_bend c.requires.before_straight in
    fits (search numbers depth 20) tt

pub overflow_mul-edge-2 : goal.overflow_mul-edge-2
overflow_mul-edge-2 c =
    let z = c.requires.rule_sizes in
    let h = c.requires.in_reach in
    let l = c.requires.before_straight in
    fits (search numbers depth 20) tt

pub returns : goal.returns
returns c =
    let z = c.requires.rule_sizes in
    let h = c.requires.in_reach in
    let l = c.requires.before_straight in
    let bend = bounded_word (c.args.self.strength * c.args.since.n * c.args.since.n) most_bend c.requires.before_straight in
    plain_call c.height_not_beyond.ensures (search numbers depth 20) tt
