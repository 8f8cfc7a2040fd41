-- The instants that are compared are small; and the turning instant by its branch on q. Assumes nothing.
use native.Mathlib.Omega.{arith}
use Rattle.instant.specs.declared.Instant.{Instant}
use Rattle.instant.specs.inner.Sizes.{SizedInstant}
use Rattle.path.specs.declared.Side.TheVariants.{Lower}
use Rattle.path.specs.inner.Sizes.{Compared}
use Rattle.path.proofs.Reach.{compared_in_upper}

pub compared_sized : (t : Instant) → Compared Lower t.n t.m → SizedInstant t
compared_sized t h =
    let reach = compared_in_upper Lower h in
    record { n = omega (arith, reach.n_hi); m = omega (arith, reach.m_hi) }
