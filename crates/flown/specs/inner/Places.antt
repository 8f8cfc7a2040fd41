-- Definitions that only inner contracts use; an instructor need not read them.
-- A walk over a flight: the motion at a whole second and at the next, and what a place in the walk is. s is a sensed question, w its sense, l a flight in that
-- sense or its numbers.
use Rattle.std.specs.Prelude.{◌≡◌, true, List, [], ◌∷◌, ℕ, zero, suc, ◌+◌, eqb, ℤ, pos, ◌+ℤ◌, ◌*ℤ◌, Bool}
use Rattle.advisory.specs.declared.Sense.{Sense}
use Rattle.path.specs.declared.SensedQuestion.{SensedQuestion}
use Rattle.path.specs.Letters.{u}
use Rattle.flight.specs.declared.Stretch.{Stretch}
use Rattle.flight.specs.Flight.{duration, acceleration_at, speed_at, height_at}
use Rattle.flight.specs.FlightLimits.{stretches_within}
use Rattle.flight.specs.HandedIn.{flight_of}
use Rattle.flight.specs.SensedFlight.{sensed_flight}
use Rattle.second.specs.declared.Motion.{Motion}
use Rattle.flown.specs.declared.Place.{Place}

-- the flight in its sense
abbrev pub flown : Sense → List ℤ → List Stretch
flown w l = sensed_flight w (flight_of l)

-- at the second n
abbrev pub motion_at : SensedQuestion → List Stretch → ℕ → Motion
motion_at s l n = record { height = height_at (u s) l n 1; speed = speed_at (u s) l n 1; acceleration = acceleration_at l n 1 }

-- a second later, with the same acceleration
abbrev pub motion_after : Motion → Motion
motion_after m = record { height = m.height +ℤ pos 2 *ℤ m.speed +ℤ m.acceleration; speed = m.speed +ℤ m.acceleration; acceleration = m.acceleration }

-- from the second n on the flight l is these stretches
pub record LeftAt (l : List Stretch) (n : ℕ) (rest : List Stretch) : Type 0 where
  pub time : n + duration rest ≡ duration l
  pub force : (k : ℕ) → acceleration_at l (n + k) 1 ≡ acceleration_at rest k 1

-- a stretch has just ended, or none has begun: which acceleration comes is not told yet
pub record BeginsAt (s : SensedQuestion) (w : Sense) (l : List ℤ) (n : ℕ) (motion : Motion) (later : List ℤ) : Type 0 where
  pub left : LeftAt (flown w l) n (flown w later)
  pub within : stretches_within (flight_of later) ≡ true
  pub height : motion.height ≡ height_at (u s) (flown w l) n 1
  pub speed : motion.speed ≡ speed_at (u s) (flown w l) n 1

pub record PlaceAt (s : SensedQuestion) (w : Sense) (l : List ℤ) (place : Place) : Type 0 where
  pub left : LeftAt (flown w l) place.second.n (record { acceleration = place.second.motion.acceleration; seconds = place.left } ∷ flown w place.later.0.now)
  pub going : place.left ≡ 0 → flight_of place.later.0.now ≡ []
  pub within : stretches_within (flight_of place.later.0.now) ≡ true
  pub motion : place.second.motion ≡ motion_at s (flown w l) place.second.n

-- what the tests of a place look at: its second, the motion, and whether it is the flight's end
abbrev pub Seen : Type 0
Seen = ℕ × (Motion × Bool)

abbrev pub seen : Place → Seen
seen place = (place.second.n, (place.second.motion, eqb place.left 0))

abbrev pub seen_at : SensedQuestion → List Stretch → ℕ → Seen
seen_at s l n = (n, (motion_at s l n, eqb n (duration l)))

-- f places from the second n on
abbrev pub places_from : SensedQuestion → List Stretch → ℕ → ℕ → List Seen
places_from s l zero n = []
places_from s l (suc f) n = seen_at s l n ∷ places_from s l f (suc n)
