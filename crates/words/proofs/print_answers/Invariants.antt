-- From each place on the sheet has whole records of known kinds, and there are no more records, and no more answers, than bytes.
use Rattle.std.proofs.Common.{◌≡◌, ◌-◌, ◌≤◌, length, drop, Ok}
use Rattle.record.specs.SheetCheck.{fault_after}
use Rattle.words.proofs.print_answers.Given as goal

abbrev pub invariant-loop-at : goal.invariant-loop-at
invariant-loop-at g l = record {
  inside : l.at ≤ length l.sheet;
  faultless : fault_after 0 (drop l.at l.sheet) ≡ Ok tt;
  fewer_answers : l.answers ≤ l.records;
  fewer_records : l.records ≤ l.at;
}

abbrev pub decreases-loop-at : goal.decreases-loop-at
decreases-loop-at g l = length l.sheet - l.at
