-- `instant::common_divisor` ends: b falls at each step.
use Rattle.instant.proofs.+common_divisor.Given as goal

abbrev pub decreases-common_divisor : goal.decreases-common_divisor
decreases-common_divisor l = l.b
