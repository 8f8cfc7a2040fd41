-- `conflict::not_beyond` meets its contract: during the delay the comparison is the definition's with the strength divided out, and after it the rule's is
-- the definition's with the height at the delay's end taken from both sides.
use mathlib.Core.Path.{ap, ◌∙◌}
use Prim.Native.Nat.{◌*◌, ◌-◌}
use native.Mathlib.Omega.{arith}
use Rattle.path.proofs.Reach.{compared_in_upper, delay_reach, compared_since}
use Rattle.path.proofs.SideSizes.{sized_of}
use Rattle.conflict.specs.declared.AdviceRule.{AdviceRule}
use Rattle.conflict.specs.inner.Divided.{rule_not_beyond}
use Rattle.conflict.proofs.Divided.{delay_divided, rule_divided}
use Rattle.conflict.proofs.Fields.{rule_sizes, missing_most}
use Rattle.conflict.proofs.not_beyond.Goals as goal

pub returns-then-t-end : goal.returns-then-t-end
returns-then-t-end c =
    c.delay_not_beyond.ensures ∙ delay_divided c.args.asked.side c.args.asked.question.sensed c.args.t.n c.args.t.m (sized_of c.args.asked) c.if-t-end.true

pub delay_not_beyond-requires : goal.delay_not_beyond-requires
delay_not_beyond-requires c = delay_reach c.args.asked.question.sizes.d_hi c.if-t-end.true (compared_in_upper c.args.asked.side c.requires)

pub not_beyond-requires-clause-in_reach : goal.not_beyond-requires-clause-in_reach
not_beyond-requires-clause-in_reach c = rw c.advice_rule.ensures (compared_since c.args.asked.side (c.args.asked.question.sensed.delay * c.args.t.m) c.requires)

pub not_beyond-requires-clause-rule_sizes : goal.not_beyond-requires-clause-rule_sizes
not_beyond-requires-clause-rule_sizes c = rw c.advice_rule.ensures (rule_sizes c.args.asked.side c.args.asked.question.sensed (sized_of c.args.asked))

pub not_beyond-requires-clause-missing_within : goal.not_beyond-requires-clause-missing_within
not_beyond-requires-clause-missing_within c = rw c.advice_rule.ensures (missing_most c.args.asked.side c.args.asked.question.sensed (sized_of c.args.asked))

pub returns : goal.returns
returns c =
    let side = c.args.asked.side in
    let s = c.args.asked.question.sensed in
    let t = c.args.t in
    c.not_beyond.ensures
    ∙ ap (λ (rule : AdviceRule). rule_not_beyond rule (t.n - s.delay * t.m) t.m) c.advice_rule.ensures
    ∙ rule_divided side s t.n t.m (omega (arith, c.if-t-end.false))
