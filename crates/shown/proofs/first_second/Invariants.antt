-- `shown::first_second` meets its contract. The loop's invariant: the path is beyond the intruder at lo and not at hi; where they meet, hi is the first
-- second. The measure is hi - lo.
use Prim.Native.Nat.{◌-◌}
use Rattle.shown.proofs.Steps.{Bracket}
use Rattle.shown.proofs.first_second.Given as goal

abbrev pub invariant-loop-hi : goal.invariant-loop-hi
invariant-loop-hi l = Bracket l.asked.side l.asked.question.sensed l.lo l.hi

abbrev pub decreases-loop-hi : goal.decreases-loop-hi
decreases-loop-hi l = l.hi - l.lo
