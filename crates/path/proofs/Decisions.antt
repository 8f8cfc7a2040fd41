-- The tests decide the propositions: in the window, in conflict. Assumes nothing.
use Rattle.std.specs.Prelude.{None, Option, Some}
use mathlib.Core.Bool.{Bool}
use mathlib.Core.Logic.{◌↔◌}
use Prim.Native.Nat.{ℕ, ◌*◌}
use lib.Dec.{T, leb, leb→le, le→leb}
use lib.Ieee.Fits.{and_i, and_l, and_r}
use lib.IntN.{nat_abs}
use lib.Signed.{le_z_yes}
use Rattle.path.specs.declared.SensedQuestion.{SensedQuestion}
use Rattle.path.specs.declared.Side.{Side}
use Rattle.path.specs.declared.Side.TheVariants.{Lower, Upper}
use Rattle.path.specs.Window.{InTime, distance_at, Window}
use Rattle.path.specs.inner.Tests.{in_time, in_window, not_beyond, in_conflict}
use Rattle.path.specs.Conflict.{NotBeyond, Conflict}

pub intime_decided : (l : Option ℕ) (n m : ℕ) → T (in_time l n m) ↔ InTime l n m
intime_decided None n m = (λ t. t, λ h. h)
intime_decided (Some L) n m = (leb→le n (L * m), le→leb n (L * m))

pub not_beyond_decided : (side : Side) (s : SensedQuestion) (n m : ℕ) → T (not_beyond side s n m) ↔ NotBeyond side s n m
unfolding not_beyond
not_beyond_decided Lower s n m = (λ t. le_z_yes t, λ h. h.le)
not_beyond_decided Upper s n m = (λ t. le_z_yes t, λ h. h.le)

module _ (s : SensedQuestion) (n m : ℕ) where
  near : Bool
  near = leb (nat_abs (distance_at s n m)) (s.radius * m)

  pub window_decided : T (in_window s n m) ↔ Window s n m
  unfolding in_window near
  window_decided = (
    λ t. record {
      near = leb→le (nat_abs (distance_at s n m)) (s.radius * m) (and_l near (in_time s.limit n m) t);
      intime = (intime_decided s.limit n m).0 (and_r near (in_time s.limit n m) t);
    },
    λ w. and_i near (in_time s.limit n m) (le→leb (nat_abs (distance_at s n m)) (s.radius * m) w.near) ((intime_decided s.limit n m).1 w.intime),
  )

  pub conflict_decided : (side : Side) → T (in_conflict side s n m) ↔ Conflict side s n m
  unfolding in_conflict
  conflict_decided side = (
    λ t. record {
      window = window_decided.0 (and_l (in_window s n m) (not_beyond side s n m) t);
      vertical = (not_beyond_decided side s n m).0 (and_r (in_window s n m) (not_beyond side s n m) t);
    },
    λ c. and_i (in_window s n m) (not_beyond side s n m) (window_decided.1 c.window) ((not_beyond_decided side s n m).1 c.vertical),
  )
