-- Each case is counted once. (`vectors` has the same: an invariant is of one function's loop.)
use Rattle.std.proofs.Common.{◌≡◌}
use Rattle.instants.proofs.report_on.Given as goal

abbrev pub invariant-loop-case : goal.invariant-loop-case
invariant-loop-case l = l.report.instants ≡ l.case-index
