-- `instant::short_gcd` meets its contract: each turn of the loop is a step of `gcd`, and keeps its value. The measure is y.
use mathlib.Core.Path.{◌≡◌}
use Rattle.instant.specs.Lowest.{gcd}
use Rattle.instant.proofs.short_gcd.Given as goal

abbrev pub invariant-loop-y : goal.invariant-loop-y
invariant-loop-y l = gcd l.x l.y ≡ gcd l.a l.b

abbrev pub decreases-loop-y : goal.decreases-loop-y
decreases-loop-y l = l.y
