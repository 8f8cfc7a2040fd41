-- `gaps::arc_above` meets its contract: the level and the speed are small.
use mathlib.Core.Path.{ap}
use Prim.Native.Nat.{ℕ, ◌*◌}
use Rattle.integers.proofs.Machine.{bounded_word, word_equal_to, read_stored, result}
use Rattle.conflict.specs.inner.Divided.{strength_of}
use Rattle.conflict.specs.inner.RuleSizes.{most_bend}
use Rattle.conflict.proofs.Fields.{numbers, read_speed_after_delay}
use Rattle.meaning.proofs.Fields.{within_size, curve_by, read_level_left}
use Rattle.meaning.proofs.gaps.arc_above.Goals as goal

pub curve-requires-clause-level_size : goal.curve-requires-clause-level_size
curve-requires-clause-level_size c =
    let level = read_level_left c.args.asked c.level_left-level.ensures in
    within_size (read_stored level) tt

pub curve-requires-clause-speed_size : goal.curve-requires-clause-speed_size
curve-requires-clause-speed_size c =
    let speed = read_speed_after_delay c.args.asked c.speed_after_delay-speed.ensures in
    within_size (read_stored speed) tt

pub returns-clause-is : goal.returns-clause-is
returns-clause-is c =
    let asked = c.args.asked in
    let since = c.args.since in
    let level = read_level_left asked c.level_left-level.ensures in
    let speed = read_speed_after_delay asked c.speed_after_delay-speed.ensures in
    let bend = word_equal_to (ap (λ (a : ℕ). a * since.n * since.n) c.rule_strength-a.ensures) (bounded_word (strength_of asked.side asked.question.sensed * since.n * since.n) most_bend c.requires.before_straight) in
    curve_by since.n since.m c.curve.ensures.is (result (search numbers depth 20) tt) (result (search numbers depth 20) tt) (result (search numbers depth 20) tt)
