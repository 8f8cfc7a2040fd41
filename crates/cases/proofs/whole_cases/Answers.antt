use Rattle.std.proofs.Common.{length, rules, arith}
use Rattle.std.proofs.Math.Arith.{mod-mul}
use Rattle.cases.proofs.whole_cases.Goals as goal

pub returns-clause-left_over : goal.returns-clause-left_over
returns-clause-left_over g c = search (rules, mod-mul (length c.args.bytes.now) {m = g.row.N} {c = 8} c.requires (omega arith))
