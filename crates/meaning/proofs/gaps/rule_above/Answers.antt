-- `gaps::rule_above` meets its contract: the speeds are in the difference's range, and the test is the definition's.
use mathlib.Core.Path.{◌≡◌, sym, ap, ap₂, ◌∙◌}
use native.Mathlib.Nat.{mul-le-mul}
use native.Mathlib.Omega.{arith}
use lib.Dec.{ltb}
use Prim.Native.Nat.{ℕ, ◌*◌}
use Rattle.std.proofs.lemmas.Bool.{cond-true, cond-false, lt-ltb, le-ltb}
use Rattle.integers.proofs.Machine.{read_stored, plain_call}
use Rattle.path.specs.declared.Side.TheVariants.{Lower}
use Rattle.path.proofs.Reach.{compared_in_upper}
use Rattle.path.proofs.SideSizes.{sized_of}
use Rattle.conflict.specs.inner.Divided.{strength_of, rule_of, missing}
use Rattle.conflict.proofs.Fields.{numbers, read_speed_after_delay, rule_sizes, missing_size, bend_size}
use Rattle.meaning.proofs.Fields.{within_size, read_rule_target}
use Rattle.meaning.proofs.gaps.rule_above.Goals as goal

pub positive_difference-gap-requires-clause-q_in_range : goal.positive_difference-gap-requires-clause-q_in_range
positive_difference-gap-requires-clause-q_in_range c =
    let asked = c.args.asked in
    let target = read_rule_target asked c.rule_target.ensures in
    within_size (read_stored target) tt

pub positive_difference-gap-requires-clause-u_in_range : goal.positive_difference-gap-requires-clause-u_in_range
positive_difference-gap-requires-clause-u_in_range c =
    let asked = c.args.asked in
    let speed = read_speed_after_delay asked c.speed_after_delay-speed.ensures in
    within_size (read_stored speed) tt

pub overflow_mul-rule_strength : goal.overflow_mul-rule_strength
overflow_mul-rule_strength c =
    let asked = c.args.asked in
    let s = asked.question.sensed in
    let since = c.args.since in
    let rule = rule_sizes asked.side s (sized_of asked) in
    let reach = compared_in_upper Lower c.requires in
    omega (arith, ap (λ (a : ℕ). a * since.n) c.rule_strength.ensures, mul-le-mul rule.strength_hi reach.n_hi)

pub overflow_mul-gap : goal.overflow_mul-gap
overflow_mul-gap c =
    let asked = c.args.asked in
    let s = asked.question.sensed in
    let since = c.args.since in
    let rule = rule_sizes asked.side s (sized_of asked) in
    let reach = compared_in_upper Lower c.requires in
    let target = read_rule_target asked c.rule_target.ensures in
    let speed = read_speed_after_delay asked c.speed_after_delay-speed.ensures in
    let gap : c.positive_difference-gap.result ≡ missing (rule_of asked.side s) = plain_call c.positive_difference-gap.ensures (search numbers depth 20) tt in
    omega (arith, ap (λ (g : ℕ). g * since.m) gap, mul-le-mul (missing_size (rule_of asked.side s) rule) reach.m_hi)

pub arc_above-requires-clause-before_straight : goal.arc_above-requires-clause-before_straight
arc_above-requires-clause-before_straight c =
    let asked = c.args.asked in
    let s = asked.question.sensed in
    let since = c.args.since in
    let rule = rule_sizes asked.side s (sized_of asked) in
    let reach = compared_in_upper Lower c.requires in
    let target = read_rule_target asked c.rule_target.ensures in
    let speed = read_speed_after_delay asked c.speed_after_delay-speed.ensures in
    let gap : c.positive_difference-gap.result ≡ missing (rule_of asked.side s) = plain_call c.positive_difference-gap.ensures (search numbers depth 20) tt in
    bend_size Lower (missing (rule_of asked.side s)) (strength_of asked.side s * since.n) since.n since.m (missing_size (rule_of asked.side s) rule) c.requires
    (omega (arith, c.if-rule_strength-since.true, ap (λ (a : ℕ). a * since.n) c.rule_strength.ensures, ap (λ (g : ℕ). g * since.m) gap))

pub returns-then-rule_strength-since-clause-is : goal.returns-then-rule_strength-since-clause-is
returns-then-rule_strength-since-clause-is c =
    let asked = c.args.asked in
    let s = asked.question.sensed in
    let since = c.args.since in
    let rule = rule_sizes asked.side s (sized_of asked) in
    let reach = compared_in_upper Lower c.requires in
    let target = read_rule_target asked c.rule_target.ensures in
    let speed = read_speed_after_delay asked c.speed_after_delay-speed.ensures in
    let gap : c.positive_difference-gap.result ≡ missing (rule_of asked.side s) = plain_call c.positive_difference-gap.ensures (search numbers depth 20) tt in
    let test : ltb (c.rule_strength.result * since.n) (c.positive_difference-gap.result * since.m) ≡ ltb (strength_of asked.side s * since.n) (missing (rule_of asked.side s) * since.m) =
    ap₂ (λ (a g : ℕ). ltb (a * since.n) (g * since.m)) c.rule_strength.ensures gap in
    c.arc_above.ensures.is ∙ sym (cond-true (ltb (strength_of asked.side s * since.n) (missing (rule_of asked.side s) * since.m)) _ _ (sym test ∙ lt-ltb _ _ c.if-rule_strength-since.true))

pub returns-clause-is : goal.returns-clause-is
returns-clause-is c =
    let asked = c.args.asked in
    let s = asked.question.sensed in
    let since = c.args.since in
    let rule = rule_sizes asked.side s (sized_of asked) in
    let reach = compared_in_upper Lower c.requires in
    let target = read_rule_target asked c.rule_target.ensures in
    let speed = read_speed_after_delay asked c.speed_after_delay-speed.ensures in
    let gap : c.positive_difference-gap.result ≡ missing (rule_of asked.side s) = plain_call c.positive_difference-gap.ensures (search numbers depth 20) tt in
    let test : ltb (c.rule_strength.result * since.n) (c.positive_difference-gap.result * since.m) ≡ ltb (strength_of asked.side s * since.n) (missing (rule_of asked.side s) * since.m) =
    ap₂ (λ (a g : ℕ). ltb (a * since.n) (g * since.m)) c.rule_strength.ensures gap in
    c.straight_above.ensures.is ∙ sym (cond-false (ltb (strength_of asked.side s * since.n) (missing (rule_of asked.side s) * since.m)) _ _ (sym test ∙ le-ltb _ _ c.if-rule_strength-since.false))
