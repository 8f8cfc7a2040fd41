-- `conflict::delay_height` meets its contract: each product fits, and their sum is the definition's.
use Rattle.integers.proofs.Machine.{fits, result}
use Rattle.path.specs.Paths.{delay_height}
use Rattle.conflict.proofs.Fields.{numbers, read_bend}
use Rattle.conflict.proofs.delay_height.Goals as goal

pub overflow_mul-result-2 : goal.overflow_mul-result-2
overflow_mul-result-2 c = let z = c.args.asked.question.sizes in let h = c.requires in fits (search numbers depth 20) tt

pub overflow_mul-result-3 : goal.overflow_mul-result-3
overflow_mul-result-3 c = let z = c.args.asked.question.sizes in let h = c.requires in fits (search numbers depth 20) tt

pub overflow_mul-result-4 : goal.overflow_mul-result-4
overflow_mul-result-4 c =
    let z = c.args.asked.question.sizes in
    let h = c.requires in
    let bend = read_bend c.args.asked.side c.args.asked.question c.delay_bend-bend.ensures in
    fits (search numbers depth 20) tt

pub overflow_mul-result-5 : goal.overflow_mul-result-5
overflow_mul-result-5 c =
    let z = c.args.asked.question.sizes in
    let h = c.requires in
    let bend = read_bend c.args.asked.side c.args.asked.question c.delay_bend-bend.ensures in
    fits (search numbers depth 20) tt

pub overflow_add-result : goal.overflow_add-result
overflow_add-result c =
    let z = c.args.asked.question.sizes in
    let h = c.requires in
    let bend = read_bend c.args.asked.side c.args.asked.question c.delay_bend-bend.ensures in
    fits (search numbers depth 20) tt

pub returns : goal.returns
unfolding delay_height
returns c =
    let z = c.args.asked.question.sizes in
    let h = c.requires in
    let bend = read_bend c.args.asked.side c.args.asked.question c.delay_bend-bend.ensures in
    result (search numbers depth 20) tt
