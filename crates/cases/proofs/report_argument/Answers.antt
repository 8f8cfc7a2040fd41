use Rattle.std.proofs.Common.{inl}
use Rattle.std.proofs.lemmas.Result.{on_ok_weaker}
use Rattle.std.specs.Fn.{FnReturnsAt}
use Rattle.cases.proofs.Behind.{reported_behind}
use Rattle.cases.proofs.report_argument.Goals as goal

pub returns-in-Ok : goal.returns-in-Ok
returns-in-Ok g c = on_ok_weaker c.report_opened.result (λ wrote. (c.argument_part-argument.result.now, inl (wrote.0, reported_behind g.T.Display.output (FnReturnsAt g.F.Fn c.args.report.now) _ _ _ _ wrote.0 c.in_ok-write_all.ensures.bytes wrote.2))) c.report_opened.ensures
