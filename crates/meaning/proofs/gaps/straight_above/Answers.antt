-- `gaps::straight_above` meets its contract: each product fits, and the numerator is the definition's.
use mathlib.Core.Path.{sym, ap, subst}
use native.Mathlib.Nat.{mul-le-mul}
use native.Mathlib.Omega.{arith}
use Prim.Native.Nat.{ℕ, ◌*◌}
use Rattle.limits.specs.Limits.{max_strength, max_closing_speed}
use Rattle.integers.proofs.Machine.{bounded_natural, bounded_word, word_equal_to, fits, result}
use Rattle.path.specs.declared.Side.TheVariants.{Lower, Upper}
use Rattle.path.specs.inner.Sizes.{farthest}
use Rattle.path.proofs.Reach.{compared_in_upper}
use Rattle.path.proofs.SideSizes.{sized_of}
use Rattle.conflict.specs.inner.Divided.{strength_of, rule_of, missing}
use Rattle.conflict.specs.inner.RuleSizes.{most_missing}
use Rattle.conflict.proofs.Fields.{numbers, rule_sizes, missing_size}
use Rattle.meaning.specs.inner.Fractions.{SizedFraction}
use Rattle.meaning.proofs.Fields.{same_fraction, straight_sized, read_level_left, read_rule_target}
use Rattle.meaning.proofs.gaps.straight_above.Goals as goal

pub overflow_mul-run : goal.overflow_mul-run
overflow_mul-run c =
    let asked = c.args.asked in
    let since = c.args.since in
    let s = asked.question.sensed in
    let reach = compared_in_upper Lower c.requires.compared in
    let rule = rule_sizes asked.side s (sized_of asked) in
    let run_size = mul-le-mul rule.strength_hi reach.n_hi in
    omega (arith, run_size, ap (λ (a : ℕ). a * since.n) c.rule_strength-a.ensures)

pub overflow_cast-run : goal.overflow_cast-run
overflow_cast-run c =
    let asked = c.args.asked in
    let since = c.args.since in
    let s = asked.question.sensed in
    let reach = compared_in_upper Lower c.requires.compared in
    let rule = rule_sizes asked.side s (sized_of asked) in
    let run_size = mul-le-mul rule.strength_hi reach.n_hi in
    fits (bounded_natural (c.rule_strength-a.result * since.n) (max_strength * farthest Upper) (omega (arith, run_size, ap (λ (a : ℕ). a * since.n) c.rule_strength-a.ensures))) tt

pub overflow_cast-g : goal.overflow_cast-g
overflow_cast-g c =
    let asked = c.args.asked in
    let since = c.args.since in
    let s = asked.question.sensed in
    let reach = compared_in_upper Lower c.requires.compared in
    let rule = rule_sizes asked.side s (sized_of asked) in
    let gap_size = missing_size (rule_of asked.side s) rule in
    fits (bounded_natural c.args.gap (most_missing Lower) (omega (arith, gap_size, c.requires.gap_missing))) tt

pub overflow_mul-result : goal.overflow_mul-result
overflow_mul-result c =
    let asked = c.args.asked in
    let since = c.args.since in
    let s = asked.question.sensed in
    let reach = compared_in_upper Lower c.requires.compared in
    let rule = rule_sizes asked.side s (sized_of asked) in
    let step_size = mul-le-mul rule.strength_hi reach.m_hi in
    let level = read_level_left asked c.level_left-level.ensures in
    let step = word_equal_to (ap (λ (a : ℕ). a * since.m) c.rule_strength-a.ensures) (bounded_word (strength_of asked.side s * since.m) (max_strength * max_closing_speed) step_size) in
    fits (search numbers depth 20) tt

pub overflow_mul-result-2 : goal.overflow_mul-result-2
overflow_mul-result-2 c =
    let asked = c.args.asked in
    let target = read_rule_target asked c.rule_target-q.ensures in
    fits (search numbers depth 20) tt

pub overflow_mul-result-3 : goal.overflow_mul-result-3
overflow_mul-result-3 c =
    let asked = c.args.asked in
    let since = c.args.since in
    let s = asked.question.sensed in
    let reach = compared_in_upper Lower c.requires.compared in
    let rule = rule_sizes asked.side s (sized_of asked) in
    let run_size = mul-le-mul rule.strength_hi reach.n_hi in
    let target = read_rule_target asked c.rule_target-q.ensures in
    let run = word_equal_to (ap (λ (a : ℕ). a * since.n) c.rule_strength-a.ensures) (bounded_word (strength_of asked.side s * since.n) (max_strength * farthest Upper) run_size) in
    fits (search numbers depth 20) tt

pub overflow_mul-result-4 : goal.overflow_mul-result-4
overflow_mul-result-4 c =
    let asked = c.args.asked in
    let since = c.args.since in
    let s = asked.question.sensed in
    let reach = compared_in_upper Lower c.requires.compared in
    let rule = rule_sizes asked.side s (sized_of asked) in
    let gap_size = missing_size (rule_of asked.side s) rule in
    let gap = word_equal_to c.requires.gap_missing (bounded_word (missing (rule_of asked.side s)) (most_missing Lower) gap_size) in
    fits (search numbers depth 20) tt

pub overflow_mul-result-5 : goal.overflow_mul-result-5
overflow_mul-result-5 c =
    let asked = c.args.asked in
    let since = c.args.since in
    let s = asked.question.sensed in
    let reach = compared_in_upper Lower c.requires.compared in
    let rule = rule_sizes asked.side s (sized_of asked) in
    let gap_size = missing_size (rule_of asked.side s) rule in
    let gap = word_equal_to c.requires.gap_missing (bounded_word (missing (rule_of asked.side s)) (most_missing Lower) gap_size) in
    let divisor = bounded_word since.m max_closing_speed reach.m_hi in
    fits (search numbers depth 20) tt

pub overflow_sub-result : goal.overflow_sub-result
overflow_sub-result c =
    let asked = c.args.asked in
    let since = c.args.since in
    let s = asked.question.sensed in
    let reach = compared_in_upper Lower c.requires.compared in
    let rule = rule_sizes asked.side s (sized_of asked) in
    let run_size = mul-le-mul rule.strength_hi reach.n_hi in
    let gap_size = missing_size (rule_of asked.side s) rule in
    let target = read_rule_target asked c.rule_target-q.ensures in
    let run = word_equal_to (ap (λ (a : ℕ). a * since.n) c.rule_strength-a.ensures) (bounded_word (strength_of asked.side s * since.n) (max_strength * farthest Upper) run_size) in
    let gap = word_equal_to c.requires.gap_missing (bounded_word (missing (rule_of asked.side s)) (most_missing Lower) gap_size) in
    let divisor = bounded_word since.m max_closing_speed reach.m_hi in
    fits (search numbers depth 20) tt

pub overflow_sub-result-2 : goal.overflow_sub-result-2
overflow_sub-result-2 c =
    let asked = c.args.asked in
    let since = c.args.since in
    let s = asked.question.sensed in
    let reach = compared_in_upper Lower c.requires.compared in
    let rule = rule_sizes asked.side s (sized_of asked) in
    let run_size = mul-le-mul rule.strength_hi reach.n_hi in
    let step_size = mul-le-mul rule.strength_hi reach.m_hi in
    let gap_size = missing_size (rule_of asked.side s) rule in
    let level = read_level_left asked c.level_left-level.ensures in
    let target = read_rule_target asked c.rule_target-q.ensures in
    let run = word_equal_to (ap (λ (a : ℕ). a * since.n) c.rule_strength-a.ensures) (bounded_word (strength_of asked.side s * since.n) (max_strength * farthest Upper) run_size) in
    let step = word_equal_to (ap (λ (a : ℕ). a * since.m) c.rule_strength-a.ensures) (bounded_word (strength_of asked.side s * since.m) (max_strength * max_closing_speed) step_size) in
    let gap = word_equal_to c.requires.gap_missing (bounded_word (missing (rule_of asked.side s)) (most_missing Lower) gap_size) in
    let divisor = bounded_word since.m max_closing_speed reach.m_hi in
    fits (search numbers depth 20) tt

pub returns-clause-is : goal.returns-clause-is
returns-clause-is c =
    let asked = c.args.asked in
    let since = c.args.since in
    let s = asked.question.sensed in
    let reach = compared_in_upper Lower c.requires.compared in
    let rule = rule_sizes asked.side s (sized_of asked) in
    let run_size = mul-le-mul rule.strength_hi reach.n_hi in
    let step_size = mul-le-mul rule.strength_hi reach.m_hi in
    let gap_size = missing_size (rule_of asked.side s) rule in
    let level = read_level_left asked c.level_left-level.ensures in
    let target = read_rule_target asked c.rule_target-q.ensures in
    let run = word_equal_to (ap (λ (a : ℕ). a * since.n) c.rule_strength-a.ensures) (bounded_word (strength_of asked.side s * since.n) (max_strength * farthest Upper) run_size) in
    let step = word_equal_to (ap (λ (a : ℕ). a * since.m) c.rule_strength-a.ensures) (bounded_word (strength_of asked.side s * since.m) (max_strength * max_closing_speed) step_size) in
    let gap = word_equal_to c.requires.gap_missing (bounded_word (missing (rule_of asked.side s)) (most_missing Lower) gap_size) in
    let divisor = bounded_word since.m max_closing_speed reach.m_hi in
    same_fraction (result (search numbers depth 20) tt) (ap (λ (a : ℕ). 2 * (a * since.m)) c.rule_strength-a.ensures)

pub returns-clause-sized : goal.returns-clause-sized
returns-clause-sized c = subst SizedFraction (sym (returns-clause-is c)) (straight_sized c.args.since.n c.args.since.m c.requires.compared c.args.asked)
