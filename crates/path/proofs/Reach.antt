-- The instants at which a side's path is compared: those of the lower side are of the upper, and of either an earlier one with the same divisor is one too.
-- Assumes nothing.
use mathlib.Core.Logic.{inl, inr}
use Prim.Native.Nat.{ℕ, ◌*◌, ◌-◌, ◌≤◌}
use native.Mathlib.Nat.{mul-le-mul}
use native.Mathlib.Omega.{arith}
use Rattle.limits.specs.Limits.{max_delay}
use Rattle.path.specs.declared.Side.{Side}
use Rattle.path.specs.declared.Side.TheVariants.{Lower, Upper}
use Rattle.path.specs.inner.Sizes.{InReach, Compared}

pub lower_in_upper : {n m : ℕ} → InReach Lower n m → InReach Upper n m
lower_in_upper h = record { n_hi = omega (arith, h.n_hi); m_lo = h.m_lo; m_hi = h.m_hi }

pub side_reach : (side : Side) {n m : ℕ} → InReach Lower n m → InReach side n m
side_reach Lower h = h
side_reach Upper h = lower_in_upper h

pub side_in_upper : (side : Side) {n m : ℕ} → InReach side n m → InReach Upper n m
side_in_upper Lower h = lower_in_upper h
side_in_upper Upper h = h

pub compared_in_upper : (side : Side) {n m : ℕ} → Compared side n m → InReach Upper n m
compared_in_upper side (inl h) = side_in_upper side h
compared_in_upper side (inr h) = h.0

-- during the delay
pub delay_reach : {d n m : ℕ} → d ≤ max_delay → n ≤ d * m → InReach Upper n m → InReach Lower n m
delay_reach z l h = record { n_hi = omega (arith, l, mul-le-mul z h.m_hi); m_lo = h.m_lo; m_hi = h.m_hi }

-- k/m before n/m
pub compared_since : (side : Side) (k : ℕ) {n m : ℕ} → Compared side n m → Compared side (n - k) m
compared_since side k (inl h) = inl (record { n_hi = omega (arith, h.n_hi); m_lo = h.m_lo; m_hi = h.m_hi })
compared_since side k (inr (h, e)) = inr (record { n_hi = omega (arith, h.n_hi); m_lo = h.m_lo; m_hi = h.m_hi }, e)
