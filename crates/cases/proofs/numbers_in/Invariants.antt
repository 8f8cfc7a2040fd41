-- The numbers so far stand in their places.
use Rattle.std.proofs.Common.{◌≡◌, length, map, take}
use Rattle.std.specs.Int.{w64, from_be_bytes}
use Rattle.cases.proofs.numbers_in.Given as goal

abbrev pub invariant-loop-k : goal.invariant-loop-k
invariant-loop-k g l = (length l.numbers ≡ length l.case) × (take l.k l.numbers ≡ map (from_be_bytes w64) (take l.k l.case))
