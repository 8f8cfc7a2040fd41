-- `conflict::AdviceRule::not_beyond` meets its contract: the test says which branch of the rule holds, and that branch's comparison is the rule's with a common
-- factor divided out.
use mathlib.Core.Path.{◌∙◌}
use Rattle.path.proofs.Reach.{compared_in_upper}
use Rattle.conflict.specs.inner.Divided.{straight_not_beyond}
use Rattle.conflict.proofs.Divided.{arc_divided, straight_divided}
use Rattle.conflict.proofs.Fields.{bend_size}
use Rattle.conflict.proofs.AdviceRule.not_beyond.Goals as goal

pub arc_not_beyond-requires-clause-in_reach : goal.arc_not_beyond-requires-clause-in_reach
arc_not_beyond-requires-clause-in_reach c = compared_in_upper c.args.self.side c.requires.in_reach

pub straight_not_beyond-requires-clause-in_reach : goal.straight_not_beyond-requires-clause-in_reach
straight_not_beyond-requires-clause-in_reach c = compared_in_upper c.args.self.side c.requires.in_reach

pub arc_not_beyond-requires-clause-before_straight : goal.arc_not_beyond-requires-clause-before_straight
arc_not_beyond-requires-clause-before_straight c =
    let z = c.requires.rule_sizes in
    let g = c.requires.missing_within in
    let h = c.requires.in_reach in
    bend_size c.args.self.side _ _ c.args.since.n c.args.since.m g h (rw c.missing_speed-gap.ensures at c.if-self-since.true)

pub returns-then-self-since : goal.returns-then-self-since
returns-then-self-since c =
    c.arc_not_beyond.ensures
    ∙ arc_divided c.args.self c.args.since.n c.args.since.m c.requires.rule_sizes.strength_lo (rw c.missing_speed-gap.ensures at c.if-self-since.true)

pub returns : goal.returns
returns c =
    ◌∙◌ {b = straight_not_beyond c.args.self c.args.since.n c.args.since.m}
    c.straight_not_beyond.ensures
    (straight_divided c.args.self c.args.since.n c.args.since.m (compared_in_upper c.args.self.side c.requires.in_reach).m_lo (rw c.missing_speed-gap.ensures at c.if-self-since.false))
