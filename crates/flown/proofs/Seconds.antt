-- A flight's motion a second later. Assumes nothing.
use mathlib.Core.Path.{◌≡◌, refl}
use mathlib.Core.List.{List}
use Prim.Native.Nat.{ℕ, suc, ◌<◌}
use Rattle.path.specs.declared.SensedQuestion.{SensedQuestion}
use Rattle.path.specs.Letters.{u}
use Rattle.flight.specs.declared.Stretch.{Stretch}
use Rattle.flight.specs.Flight.{duration, acceleration_at}
use Rattle.flight.proofs.Walk.{next_speed, next_height}
use Rattle.second.specs.declared.Motion.{Motion}
use Rattle.flown.specs.inner.Places.{motion_at, motion_after}
use Rattle.flown.proofs.NextPlace.{moving, same_motion}

module _ (s : SensedQuestion) (l : List Stretch) (n : ℕ) where
  -- before the flight's end: as `motion_after` says, from when on the acceleration may be another
  pub next_motion : n < duration l → motion_at s l (suc n) ≡ (let m : Motion = motion_after (motion_at s l n) in moving m.height m.speed (acceleration_at l (suc n) 1))
  next_motion h = same_motion (next_height (u s) l n h) (next_speed (u s) l n h) refl
