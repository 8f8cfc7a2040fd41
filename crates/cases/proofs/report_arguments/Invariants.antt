-- What was written so far are the texts of some names in turn.
use Rattle.std.proofs.Common.{ℕ, List}
use Rattle.std.specs.Fn.{FnReturnsAt}
use Rattle.std.specs.List.{FoldsTo}
use Rattle.cases.specs.Reports.{WritesArgument}
use Rattle.cases.proofs.report_arguments.Given as goal

abbrev pub invariant-loop-k : goal.invariant-loop-k
invariant-loop-k g l =
    (names : List (List ℕ)) × FoldsTo (WritesArgument g.T.Display.output (FnReturnsAt g.F.Fn l.report)) (g.O.Write.contents l.initial.output) names (g.O.Write.contents l.output)
