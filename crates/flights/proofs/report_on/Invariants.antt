-- Each case is counted once, and takes some of the numbers.
use Rattle.std.proofs.Common.{◌+◌, ◌/◌, ◌≤◌, length}
use Rattle.flights.proofs.report_on.Given as goal

abbrev pub invariant-loop-case : goal.invariant-loop-case
invariant-loop-case l = l.report.flights + length l.rest ≤ length l.bytes / 8

abbrev pub decreases-loop-case : goal.decreases-loop-case
decreases-loop-case l = length l.rest
