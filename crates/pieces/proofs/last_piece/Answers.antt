-- `pieces::last_piece` meets its contract: each product fits, and its time and each coefficient are the definition's.
use mathlib.Core.Path.{refl, sym, ap₂, subst}
use Prim.Native.Nat.{ℕ, ◌+◌, ◌*◌, ◌≤◌}
use native.Mathlib.Nat.{mul-le-mul}
use native.Mathlib.Omega.{arith}
use Rattle.integers.proofs.Machine.{fits, result}
use Rattle.instant.specs.Order.{◌÷◌}
use Rattle.path.specs.Letters.{d}
use Rattle.path.proofs.SideSizes.{sized_of}
use Rattle.conflict.proofs.Fields.{numbers}
use Rattle.pieces.specs.inner.PieceSizes.{most_gap}
use Rattle.pieces.proofs.Fields.{gap_size, read_gap, read_strength, read_target, read_height, same_piece}
use Rattle.pieces.proofs.last_piece.Goals as goal

-- the gap as the code has it is small
pub overflow_cast-g : goal.overflow_cast-g
overflow_cast-g c = let asked = c.args.asked in omega (arith, (subst (λ (g : ℕ). g ≤ most_gap) (sym c.missing_speed-gap.ensures) (gap_size asked.side asked.question.sensed (sized_of asked))))

pub overflow_mul-result : goal.overflow_mul-result
overflow_mul-result c = let z = c.args.asked.question.sizes in record { fits = omega (arith, mul-le-mul z.d_hi c.strength-strength.ensures.small) }

pub overflow_add-result : goal.overflow_add-result
overflow_add-result c =
    let asked = c.args.asked in
    let z = asked.question.sizes in
    record { fits = omega (arith, mul-le-mul z.d_hi c.strength-strength.ensures.small, (subst (λ (g : ℕ). g ≤ most_gap) (sym c.missing_speed-gap.ensures) (gap_size asked.side asked.question.sensed (sized_of asked)))) }

pub overflow_mul-result-2 : goal.overflow_mul-result-2
overflow_mul-result-2 c =
    let z = c.args.asked.question.sizes in
    let g = read_gap c.args.asked c.missing_speed-gap.ensures in
    let f = read_height c.args.asked c.height_after_delay-height.ensures in
    let a = read_strength c.args.asked c.strength-strength.ensures.value in
    let q = read_target c.args.asked c.rule_target-q.ensures in
    fits (search numbers depth 20) tt

pub overflow_mul-result-3 : goal.overflow_mul-result-3
overflow_mul-result-3 c =
    let z = c.args.asked.question.sizes in
    let g = read_gap c.args.asked c.missing_speed-gap.ensures in
    let f = read_height c.args.asked c.height_after_delay-height.ensures in
    let a = read_strength c.args.asked c.strength-strength.ensures.value in
    let q = read_target c.args.asked c.rule_target-q.ensures in
    fits (search numbers depth 20) tt

pub overflow_mul-result-4 : goal.overflow_mul-result-4
overflow_mul-result-4 c =
    let z = c.args.asked.question.sizes in
    let g = read_gap c.args.asked c.missing_speed-gap.ensures in
    let f = read_height c.args.asked c.height_after_delay-height.ensures in
    let a = read_strength c.args.asked c.strength-strength.ensures.value in
    let q = read_target c.args.asked c.rule_target-q.ensures in
    fits (search numbers depth 20) tt

pub overflow_mul-result-5 : goal.overflow_mul-result-5
overflow_mul-result-5 c =
    let z = c.args.asked.question.sizes in
    let g = read_gap c.args.asked c.missing_speed-gap.ensures in
    let f = read_height c.args.asked c.height_after_delay-height.ensures in
    let a = read_strength c.args.asked c.strength-strength.ensures.value in
    let q = read_target c.args.asked c.rule_target-q.ensures in
    fits (search numbers depth 20) tt

pub overflow_mul-result-6 : goal.overflow_mul-result-6
overflow_mul-result-6 c =
    let z = c.args.asked.question.sizes in
    let g = read_gap c.args.asked c.missing_speed-gap.ensures in
    let f = read_height c.args.asked c.height_after_delay-height.ensures in
    let a = read_strength c.args.asked c.strength-strength.ensures.value in
    let q = read_target c.args.asked c.rule_target-q.ensures in
    fits (search numbers depth 20) tt

pub overflow_mul-result-7 : goal.overflow_mul-result-7
overflow_mul-result-7 c =
    let z = c.args.asked.question.sizes in
    let g = read_gap c.args.asked c.missing_speed-gap.ensures in
    let f = read_height c.args.asked c.height_after_delay-height.ensures in
    let a = read_strength c.args.asked c.strength-strength.ensures.value in
    let q = read_target c.args.asked c.rule_target-q.ensures in
    fits (search numbers depth 20) tt

pub overflow_sub-result : goal.overflow_sub-result
overflow_sub-result c =
    let z = c.args.asked.question.sizes in
    let g = read_gap c.args.asked c.missing_speed-gap.ensures in
    let f = read_height c.args.asked c.height_after_delay-height.ensures in
    let a = read_strength c.args.asked c.strength-strength.ensures.value in
    let q = read_target c.args.asked c.rule_target-q.ensures in
    fits (search numbers depth 20) tt

pub overflow_sub-result-2 : goal.overflow_sub-result-2
overflow_sub-result-2 c =
    let z = c.args.asked.question.sizes in
    let g = read_gap c.args.asked c.missing_speed-gap.ensures in
    let f = read_height c.args.asked c.height_after_delay-height.ensures in
    let a = read_strength c.args.asked c.strength-strength.ensures.value in
    let q = read_target c.args.asked c.rule_target-q.ensures in
    fits (search numbers depth 20) tt

pub returns : goal.returns
returns c =
    let z = c.args.asked.question.sizes in
    let g = read_gap c.args.asked c.missing_speed-gap.ensures in
    let f = read_height c.args.asked c.height_after_delay-height.ensures in
    let a = read_strength c.args.asked c.strength-strength.ensures.value in
    let q = read_target c.args.asked c.rule_target-q.ensures in
    same_piece (ap₂ (λ (k a : ℕ). d c.args.asked.question.sensed * a + k ÷ a) c.missing_speed-gap.ensures c.strength-strength.ensures.value) refl (result (search numbers depth 20) tt) (result (search numbers depth 20) tt)
