-- `pieces::missing_speed` meets its contract: q and u_d are operands of `positive_difference`.
use Rattle.path.specs.inner.Sizes.{max_speed_after_delay}
use Rattle.path.proofs.SideSizes.{sized_of}
use Rattle.conflict.proofs.Fields.{rule_sizes}
use Rattle.conflict.proofs.PositiveDifference.{operand}
use Rattle.pieces.proofs.missing_speed.Goals as goal

pub positive_difference-requires-clause-q_in_range : goal.positive_difference-requires-clause-q_in_range
positive_difference-requires-clause-q_in_range c =
    let asked = c.args.asked in
    operand c.rule_target-q.result max_speed_after_delay (rw c.rule_target-q.ensures (rule_sizes asked.side asked.question.sensed (sized_of asked)).target_hi) tt

pub positive_difference-requires-clause-u_in_range : goal.positive_difference-requires-clause-u_in_range
positive_difference-requires-clause-u_in_range c =
    let asked = c.args.asked in
    operand c.speed_after_delay-u_d.result max_speed_after_delay (rw c.speed_after_delay-u_d.ensures (rule_sizes asked.side asked.question.sensed (sized_of asked)).speed_hi) tt
