-- `Approach::tops` meets its contract: the sum fits, and the joined tests are the definition's.
use Rattle.integers.proofs.Machine.{fits, plain}
use Rattle.second.proofs.Fields.{second_terms}
use Rattle.second.proofs.approach.Approach.tops.Goals as goal

pub overflow_add-result-2 : goal.overflow_add-result-2
overflow_add-result-2 c = let z = c.args.self.sizes in let h = c.requires in fits (search second_terms depth 20) tt

pub returns : goal.returns
returns c = let z = c.args.self.sizes in let h = c.requires in plain (search second_terms depth 20) tt
