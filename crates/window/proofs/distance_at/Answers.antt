-- `window::distance_at` meets its contract: each product fits, and their difference is the definition's.
use Rattle.integers.proofs.Machine.{fits, result}
use Rattle.window.proofs.Fields.{numbers}
use Rattle.window.proofs.distance_at.Goals as goal

pub overflow_mul-result : goal.overflow_mul-result
overflow_mul-result c = let z = c.args.question.sizes in let h = c.requires in fits (search numbers depth 20) tt

pub overflow_mul-result-2 : goal.overflow_mul-result-2
overflow_mul-result-2 c = let z = c.args.question.sizes in let h = c.requires in fits (search numbers depth 20) tt

pub overflow_sub-result : goal.overflow_sub-result
overflow_sub-result c = let z = c.args.question.sizes in let h = c.requires in fits (search numbers depth 20) tt

pub returns : goal.returns
returns c = let z = c.args.question.sizes in let h = c.requires in result (search numbers depth 20) tt
