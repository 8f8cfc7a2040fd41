-- `pieces::height_after_delay` meets its contract: each product fits, and the result is the definition's.
use mathlib.Core.Path.{◌∙◌}
use mathlib.Core.List.{[], ◌∷◌}
use Rattle.integers.proofs.Quotation.{quote}
use Rattle.integers.proofs.Certificates.{ring}
use Rattle.integers.proofs.Machine.{fits, result}
use Rattle.path.specs.Letters.{u, d}
use Rattle.path.specs.Paths.{delay_height}
use Rattle.conflict.specs.inner.Divided.{bend, strength_of}
use Rattle.conflict.proofs.Fields.{numbers}
use Rattle.pieces.specs.Pieces.{height_after_delay}
use Rattle.pieces.proofs.Fields.{read_strength, read_acceleration}
use Rattle.pieces.proofs.height_after_delay.Goals as goal

pub overflow_mul-result : goal.overflow_mul-result
overflow_mul-result c =
    let z = c.args.asked.question.sizes in
    let e = read_acceleration c.args.asked c.delay_bend-bend.ensures in
    let a = read_strength c.args.asked c.strength-a.ensures.value in
    fits (search numbers depth 20) tt

pub overflow_mul-result-2 : goal.overflow_mul-result-2
overflow_mul-result-2 c =
    let z = c.args.asked.question.sizes in
    let e = read_acceleration c.args.asked c.delay_bend-bend.ensures in
    let a = read_strength c.args.asked c.strength-a.ensures.value in
    fits (search numbers depth 20) tt

pub overflow_mul-result-3 : goal.overflow_mul-result-3
overflow_mul-result-3 c =
    let z = c.args.asked.question.sizes in
    let e = read_acceleration c.args.asked c.delay_bend-bend.ensures in
    let a = read_strength c.args.asked c.strength-a.ensures.value in
    fits (search numbers depth 20) tt

pub overflow_mul-result-4 : goal.overflow_mul-result-4
overflow_mul-result-4 c =
    let z = c.args.asked.question.sizes in
    let e = read_acceleration c.args.asked c.delay_bend-bend.ensures in
    let a = read_strength c.args.asked c.strength-a.ensures.value in
    fits (search numbers depth 20) tt

pub overflow_mul-result-5 : goal.overflow_mul-result-5
overflow_mul-result-5 c =
    let z = c.args.asked.question.sizes in
    let e = read_acceleration c.args.asked c.delay_bend-bend.ensures in
    let a = read_strength c.args.asked c.strength-a.ensures.value in
    fits (search numbers depth 20) tt

pub overflow_add-result : goal.overflow_add-result
overflow_add-result c =
    let z = c.args.asked.question.sizes in
    let e = read_acceleration c.args.asked c.delay_bend-bend.ensures in
    let a = read_strength c.args.asked c.strength-a.ensures.value in
    fits (search numbers depth 20) tt

pub returns : goal.returns
unfolding height_after_delay delay_height
returns c =
    let side = c.args.asked.side in
    let s = c.args.asked.question.sensed in
    let z = c.args.asked.question.sizes in
    let e = read_acceleration c.args.asked c.delay_bend-bend.ensures in
    let a = read_strength c.args.asked c.strength-a.ensures.value in
    result (search numbers depth 20) tt ∙ ring (strength_of side s ∷ d s ∷ []) (bend side s ∷ u s ∷ []) (λ v. search quote depth 20) tt
