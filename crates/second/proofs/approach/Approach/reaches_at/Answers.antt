-- `Approach::reaches_at` meets its contract: each product fits, and the test is the definition's.
use Rattle.integers.proofs.Machine.{fits, plain}
use Rattle.second.proofs.Fields.{second_terms}
use Rattle.second.proofs.approach.Approach.reaches_at.Goals as goal

pub overflow_mul-result-2 : goal.overflow_mul-result-2
overflow_mul-result-2 c = let z = c.args.self.sizes in let h = c.requires in fits (search second_terms depth 20) tt

pub overflow_mul-result-4 : goal.overflow_mul-result-4
overflow_mul-result-4 c = let z = c.args.self.sizes in let h = c.requires in fits (search second_terms depth 20) tt

pub overflow_mul-result-5 : goal.overflow_mul-result-5
overflow_mul-result-5 c = let z = c.args.self.sizes in let h = c.requires in fits (search second_terms depth 20) tt

pub overflow_mul-result-7 : goal.overflow_mul-result-7
overflow_mul-result-7 c = let z = c.args.self.sizes in let h = c.requires in fits (search second_terms depth 20) tt

pub overflow_add-result : goal.overflow_add-result
overflow_add-result c = let z = c.args.self.sizes in let h = c.requires in fits (search second_terms depth 20) tt

pub returns : goal.returns
returns c = let z = c.args.self.sizes in let h = c.requires in plain (search second_terms depth 20) tt
