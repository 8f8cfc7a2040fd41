-- `gaps::level_left` meets its contract: the product and the difference fit.
use mathlib.Core.Path.{◌∙◌}
use Rattle.integers.proofs.Machine.{fits, result}
use Rattle.conflict.proofs.Fields.{numbers, read_speed_after_delay}
use Rattle.meaning.proofs.Fields.{level_left_is}
use Rattle.meaning.proofs.gaps.level_left.Goals as goal

pub overflow_mul-result-2 : goal.overflow_mul-result-2
overflow_mul-result-2 c =
    let asked = c.args.asked in
    let z = asked.question.sizes in
    let speed = read_speed_after_delay asked c.speed_after_delay-speed.ensures in
    fits (search numbers depth 20) tt

pub overflow_sub-result : goal.overflow_sub-result
overflow_sub-result c =
    let asked = c.args.asked in
    let z = asked.question.sizes in
    let speed = read_speed_after_delay asked c.speed_after_delay-speed.ensures in
    fits (search numbers depth 20) tt

pub returns : goal.returns
returns c =
    let asked = c.args.asked in
    let z = asked.question.sizes in
    let speed = read_speed_after_delay asked c.speed_after_delay-speed.ensures in
    result (search numbers depth 20) tt ∙ level_left_is asked.question.sensed asked.side
