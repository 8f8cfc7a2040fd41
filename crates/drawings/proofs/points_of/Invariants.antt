-- Each point is counted at most once.
use Rattle.std.proofs.Common.{◌≤◌}
use Rattle.drawings.proofs.points_of.Given as goal

abbrev pub invariant-loop-second : goal.invariant-loop-second
invariant-loop-second l = (l.points.different ≤ l.second-index) × (l.points.drawn ≤ l.second-index) × (l.points.refused ≤ l.second-index)
