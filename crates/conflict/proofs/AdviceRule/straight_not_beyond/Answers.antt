-- `conflict::AdviceRule::straight_not_beyond` meets its contract: each product fits, and the comparison is the definition's.
use Prim.Native.Nat.{◌*◌}
use native.Mathlib.Nat.{mul-le-mul}
use Rattle.integers.proofs.Machine.{bounded_word, word_equal_to, fits, plain_call}
use Rattle.limits.specs.Limits.{max_strength}
use Rattle.path.specs.declared.Side.TheVariants.{Lower, Upper}
use Rattle.path.specs.inner.Sizes.{farthest}
use Rattle.conflict.specs.inner.Divided.{missing}
use Rattle.conflict.specs.inner.RuleSizes.{most_missing}
use Rattle.conflict.proofs.Fields.{numbers, missing_size}
use Rattle.conflict.proofs.AdviceRule.straight_not_beyond.Goals as goal

pub overflow_mul-straight-2 : goal.overflow_mul-straight-2
overflow_mul-straight-2 c =
    let z = c.requires.rule_sizes in
    let h = c.requires.in_reach in
    let e = c.requires.gap_missing in
    let run = bounded_word (c.args.self.strength * c.args.since.n) (max_strength * farthest Upper) (mul-le-mul c.requires.rule_sizes.strength_hi c.requires.in_reach.n_hi) in
    fits (search numbers depth 20) tt

pub overflow_mul-straight-3 : goal.overflow_mul-straight-3
overflow_mul-straight-3 c =
    let z = c.requires.rule_sizes in
    let h = c.requires.in_reach in
    let e = c.requires.gap_missing in
    let gap = word_equal_to c.requires.gap_missing (bounded_word (missing c.args.self) (most_missing Lower) (missing_size c.args.self c.requires.rule_sizes)) in
    fits (search numbers depth 20) tt

pub overflow_mul-straight-4 : goal.overflow_mul-straight-4
overflow_mul-straight-4 c =
    let z = c.requires.rule_sizes in
    let h = c.requires.in_reach in
    let e = c.requires.gap_missing in
    let gap = word_equal_to c.requires.gap_missing (bounded_word (missing c.args.self) (most_missing Lower) (missing_size c.args.self c.requires.rule_sizes)) in
    fits (search numbers depth 20) tt

pub overflow_sub-straight : goal.overflow_sub-straight
overflow_sub-straight c =
    let z = c.requires.rule_sizes in
    let h = c.requires.in_reach in
    let e = c.requires.gap_missing in
    let gap = word_equal_to c.requires.gap_missing (bounded_word (missing c.args.self) (most_missing Lower) (missing_size c.args.self c.requires.rule_sizes)) in
    let run = bounded_word (c.args.self.strength * c.args.since.n) (max_strength * farthest Upper) (mul-le-mul c.requires.rule_sizes.strength_hi c.requires.in_reach.n_hi) in
    fits (search numbers depth 20) tt

pub overflow_mul-edge : goal.overflow_mul-edge
overflow_mul-edge c =
    let z = c.requires.rule_sizes in
    let h = c.requires.in_reach in
    let e = c.requires.gap_missing in
    fits (search numbers depth 20) tt

pub overflow_mul-edge-2 : goal.overflow_mul-edge-2
overflow_mul-edge-2 c =
    let z = c.requires.rule_sizes in
    let h = c.requires.in_reach in
    let e = c.requires.gap_missing in
    fits (search numbers depth 20) tt

pub returns : goal.returns
returns c =
    let z = c.requires.rule_sizes in
    let h = c.requires.in_reach in
    let e = c.requires.gap_missing in
    let gap = word_equal_to c.requires.gap_missing (bounded_word (missing c.args.self) (most_missing Lower) (missing_size c.args.self c.requires.rule_sizes)) in
    let run = bounded_word (c.args.self.strength * c.args.since.n) (max_strength * farthest Upper) (mul-le-mul c.requires.rule_sizes.strength_hi c.requires.in_reach.n_hi) in
    plain_call c.height_not_beyond.ensures (search numbers depth 20) tt
