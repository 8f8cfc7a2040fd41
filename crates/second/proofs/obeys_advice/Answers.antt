-- `second::obeys_advice` meets its contract: the joined tests are the definition's.
use Rattle.integers.proofs.Machine.{plain}
use Rattle.second.proofs.Fields.{second_terms}
use Rattle.second.proofs.obeys_advice.Goals as goal

pub returns : goal.returns
returns c = let z = c.args.s.sizes in let m = c.args.second.sizes in plain (search second_terms depth 20) tt
