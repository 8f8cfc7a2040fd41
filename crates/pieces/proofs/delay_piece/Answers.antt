-- `pieces::delay_piece` meets its contract: each product fits, and each coefficient is the definition's.
use mathlib.Core.Path.{refl}
use Rattle.integers.proofs.Machine.{fits, result}
use Rattle.conflict.proofs.Fields.{numbers}
use Rattle.pieces.proofs.Fields.{read_strength, read_acceleration, same_piece}
use Rattle.pieces.proofs.delay_piece.Goals as goal

pub overflow_mul-result : goal.overflow_mul-result
overflow_mul-result c =
    let z = c.args.asked.question.sizes in
    let e = read_acceleration c.args.asked c.delay_bend-bend.ensures in
    let a = read_strength c.args.asked c.strength-a.ensures.value in
    fits (search numbers depth 20) tt

pub overflow_mul-result-2 : goal.overflow_mul-result-2
overflow_mul-result-2 c =
    let z = c.args.asked.question.sizes in
    let e = read_acceleration c.args.asked c.delay_bend-bend.ensures in
    let a = read_strength c.args.asked c.strength-a.ensures.value in
    fits (search numbers depth 20) tt

pub overflow_mul-result-3 : goal.overflow_mul-result-3
overflow_mul-result-3 c =
    let z = c.args.asked.question.sizes in
    let e = read_acceleration c.args.asked c.delay_bend-bend.ensures in
    let a = read_strength c.args.asked c.strength-a.ensures.value in
    fits (search numbers depth 20) tt

pub returns : goal.returns
returns c =
    let z = c.args.asked.question.sizes in
    let e = read_acceleration c.args.asked c.delay_bend-bend.ensures in
    let a = read_strength c.args.asked c.strength-a.ensures.value in
    same_piece refl (result (search numbers depth 20) tt) (result (search numbers depth 20) tt) refl
