-- `conflict::rule_target` meets its contract: on the upper side both numbers are read as they are, and the larger is the definition's.
use mathlib.Core.Path.{◌∙◌}
use borrow.Author.Rules.{sfits_of}
use mir.Syntax.{w64}
use mir.Facts.{to_z-of_z}
use Rattle.integers.proofs.Machine.{bounded, read_stored}
use Rattle.path.specs.Letters.{upper_q}
use Rattle.path.specs.inner.Sizes.{max_speed_difference}
use Rattle.conflict.proofs.Fields.{larger_is, upper_target_is, read_speed_after_delay}
use Rattle.conflict.proofs.rule_target.Goals as goal

pub returns-in-Upper : goal.returns-in-Upper
returns-in-Upper c =
    let asked = c.args.asked in
    let sizes = asked.upper_sizes c.in-Upper.is in
    let target = bounded (upper_q asked.question.sensed) max_speed_difference sizes.upper_q_lo sizes.upper_q_hi in
    let speed = read_speed_after_delay asked c.speed_after_delay.ensures in
    to_z-of_z {w = w64} (sfits_of c.max.type_inv)
    ∙ larger_is (read_stored target) (read_stored speed) tt tt c.max.ensures.value
    ∙ upper_target_is asked.side asked.question.sensed c.in-Upper.is
