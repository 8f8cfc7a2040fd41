-- The first fault of the sheet is that of what remains.
use Rattle.std.proofs.Common.{◌≡◌, length}
use Rattle.record.specs.SheetCheck.{fault_after}
use Rattle.record.proofs.first_fault.Given as goal

abbrev pub invariant-loop-first : goal.invariant-loop-first
invariant-loop-first l = fault_after 0 l.sheet ≡ fault_after 0 l.rest

abbrev pub decreases-loop-first : goal.decreases-loop-first
decreases-loop-first l = length l.rest
