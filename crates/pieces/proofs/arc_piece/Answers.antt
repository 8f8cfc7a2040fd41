-- `pieces::arc_piece` meets its contract: each product fits, and each coefficient is the definition's.
use mathlib.Core.Path.{refl}
use Rattle.integers.proofs.Machine.{fits, result}
use Rattle.conflict.proofs.Fields.{numbers}
use Rattle.pieces.proofs.Fields.{read_strength, read_speed_after, read_height, same_piece}
use Rattle.pieces.proofs.arc_piece.Goals as goal

pub overflow_mul-result : goal.overflow_mul-result
overflow_mul-result c =
    let z = c.args.asked.question.sizes in
    let after = read_speed_after c.args.asked c.speed_after_delay-u_d.ensures in
    let f = read_height c.args.asked c.height_after_delay-height.ensures in
    let a = read_strength c.args.asked c.strength-a.ensures.value in
    fits (search numbers depth 20) tt

pub overflow_mul-result-2 : goal.overflow_mul-result-2
overflow_mul-result-2 c =
    let z = c.args.asked.question.sizes in
    let after = read_speed_after c.args.asked c.speed_after_delay-u_d.ensures in
    let f = read_height c.args.asked c.height_after_delay-height.ensures in
    let a = read_strength c.args.asked c.strength-a.ensures.value in
    fits (search numbers depth 20) tt

pub overflow_mul-result-3 : goal.overflow_mul-result-3
overflow_mul-result-3 c =
    let z = c.args.asked.question.sizes in
    let after = read_speed_after c.args.asked c.speed_after_delay-u_d.ensures in
    let f = read_height c.args.asked c.height_after_delay-height.ensures in
    let a = read_strength c.args.asked c.strength-a.ensures.value in
    fits (search numbers depth 20) tt

pub overflow_mul-result-4 : goal.overflow_mul-result-4
overflow_mul-result-4 c =
    let z = c.args.asked.question.sizes in
    let after = read_speed_after c.args.asked c.speed_after_delay-u_d.ensures in
    let f = read_height c.args.asked c.height_after_delay-height.ensures in
    let a = read_strength c.args.asked c.strength-a.ensures.value in
    fits (search numbers depth 20) tt

pub overflow_mul-result-5 : goal.overflow_mul-result-5
overflow_mul-result-5 c =
    let z = c.args.asked.question.sizes in
    let after = read_speed_after c.args.asked c.speed_after_delay-u_d.ensures in
    let f = read_height c.args.asked c.height_after_delay-height.ensures in
    let a = read_strength c.args.asked c.strength-a.ensures.value in
    fits (search numbers depth 20) tt

pub overflow_mul-result-6 : goal.overflow_mul-result-6
overflow_mul-result-6 c =
    let z = c.args.asked.question.sizes in
    let after = read_speed_after c.args.asked c.speed_after_delay-u_d.ensures in
    let f = read_height c.args.asked c.height_after_delay-height.ensures in
    let a = read_strength c.args.asked c.strength-a.ensures.value in
    fits (search numbers depth 20) tt

pub overflow_mul-result-7 : goal.overflow_mul-result-7
overflow_mul-result-7 c =
    let z = c.args.asked.question.sizes in
    let after = read_speed_after c.args.asked c.speed_after_delay-u_d.ensures in
    let f = read_height c.args.asked c.height_after_delay-height.ensures in
    let a = read_strength c.args.asked c.strength-a.ensures.value in
    fits (search numbers depth 20) tt

pub overflow_mul-result-8 : goal.overflow_mul-result-8
overflow_mul-result-8 c =
    let z = c.args.asked.question.sizes in
    let after = read_speed_after c.args.asked c.speed_after_delay-u_d.ensures in
    let f = read_height c.args.asked c.height_after_delay-height.ensures in
    let a = read_strength c.args.asked c.strength-a.ensures.value in
    fits (search numbers depth 20) tt

pub overflow_mul-result-9 : goal.overflow_mul-result-9
overflow_mul-result-9 c =
    let z = c.args.asked.question.sizes in
    let after = read_speed_after c.args.asked c.speed_after_delay-u_d.ensures in
    let f = read_height c.args.asked c.height_after_delay-height.ensures in
    let a = read_strength c.args.asked c.strength-a.ensures.value in
    fits (search numbers depth 20) tt

pub overflow_mul-result-10 : goal.overflow_mul-result-10
overflow_mul-result-10 c =
    let z = c.args.asked.question.sizes in
    let after = read_speed_after c.args.asked c.speed_after_delay-u_d.ensures in
    let f = read_height c.args.asked c.height_after_delay-height.ensures in
    let a = read_strength c.args.asked c.strength-a.ensures.value in
    fits (search numbers depth 20) tt

pub overflow_mul-result-11 : goal.overflow_mul-result-11
overflow_mul-result-11 c =
    let z = c.args.asked.question.sizes in
    let after = read_speed_after c.args.asked c.speed_after_delay-u_d.ensures in
    let f = read_height c.args.asked c.height_after_delay-height.ensures in
    let a = read_strength c.args.asked c.strength-a.ensures.value in
    fits (search numbers depth 20) tt

pub overflow_mul-result-12 : goal.overflow_mul-result-12
overflow_mul-result-12 c =
    let z = c.args.asked.question.sizes in
    let after = read_speed_after c.args.asked c.speed_after_delay-u_d.ensures in
    let f = read_height c.args.asked c.height_after_delay-height.ensures in
    let a = read_strength c.args.asked c.strength-a.ensures.value in
    fits (search numbers depth 20) tt

pub overflow_sub-result : goal.overflow_sub-result
overflow_sub-result c =
    let z = c.args.asked.question.sizes in
    let after = read_speed_after c.args.asked c.speed_after_delay-u_d.ensures in
    let f = read_height c.args.asked c.height_after_delay-height.ensures in
    let a = read_strength c.args.asked c.strength-a.ensures.value in
    fits (search numbers depth 20) tt

pub overflow_sub-result-2 : goal.overflow_sub-result-2
overflow_sub-result-2 c =
    let z = c.args.asked.question.sizes in
    let after = read_speed_after c.args.asked c.speed_after_delay-u_d.ensures in
    let f = read_height c.args.asked c.height_after_delay-height.ensures in
    let a = read_strength c.args.asked c.strength-a.ensures.value in
    fits (search numbers depth 20) tt

pub overflow_add-result : goal.overflow_add-result
overflow_add-result c =
    let z = c.args.asked.question.sizes in
    let after = read_speed_after c.args.asked c.speed_after_delay-u_d.ensures in
    let f = read_height c.args.asked c.height_after_delay-height.ensures in
    let a = read_strength c.args.asked c.strength-a.ensures.value in
    fits (search numbers depth 20) tt

pub returns : goal.returns
returns c =
    let z = c.args.asked.question.sizes in
    let after = read_speed_after c.args.asked c.speed_after_delay-u_d.ensures in
    let f = read_height c.args.asked c.height_after_delay-height.ensures in
    let a = read_strength c.args.asked c.strength-a.ensures.value in
    same_piece refl (result (search numbers depth 20) tt) (result (search numbers depth 20) tt) (result (search numbers depth 20) tt)
