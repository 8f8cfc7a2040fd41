-- The place stays in the sheet and only grows, and there are no more records than bytes.
use Rattle.std.proofs.Common.{◌-◌, ◌≤◌, length}
use Rattle.words.proofs.first_fault.Given as goal

abbrev pub invariant-loop-at : goal.invariant-loop-at
invariant-loop-at l = (l.at ≤ length l.sheet) × (l.record ≤ l.at)

abbrev pub decreases-loop-at : goal.decreases-loop-at
decreases-loop-at l = length l.sheet - l.at
