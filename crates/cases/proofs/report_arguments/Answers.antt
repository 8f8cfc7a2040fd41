use Rattle.std.proofs.Common.{◌++◌, [], ◌∷◌}
use Rattle.std.specs.Fn.{FnReturnsAt}
use Rattle.std.proofs.lemmas.Fn.{FoldsTo-push}
use Rattle.cases.specs.Reports.{WritesArgument}
use Rattle.cases.proofs.report_arguments.Goals as goal

pub loop-k-preserved : goal.loop-k-preserved
loop-k-preserved g c =
    let before = c.loop-k.invariant in
    let wrote = c.in_ok-report_argument.ensures in
    (before.0 ++ wrote.0 ∷ [], FoldsTo-push (WritesArgument g.T.Display.output (FnReturnsAt g.F.Fn c.args.report.now)) _ before.0 _ wrote.0 _ before.1 wrote.1)
