use Rattle.std.proofs.Common.{rules}
use Rattle.std.proofs.lemmas.Slice.{overwrites}
use Rattle.cases.proofs.line.LineWrite.write_str.Goals as goal

pub returns : goal.returns
returns c = search (rules, overwrites)
