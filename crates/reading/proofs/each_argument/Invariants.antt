-- The closure was called at some names so far, and no call failed.
use Rattle.std.proofs.Common.{ℕ, List}
use Rattle.reading.specs.Calls.{CalledInTurn}
use Rattle.reading.proofs.each_argument.Given as goal

abbrev pub invariant-loop-k : goal.invariant-loop-k
invariant-loop-k g l = record {
  callable : goal.F-IsAlwaysCallable g l.f;
  called : (names : List (List ℕ)) × CalledInTurn g.F.FnMut l.initial.f names l.f;
}
