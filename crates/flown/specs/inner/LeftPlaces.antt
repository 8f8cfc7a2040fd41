-- Definitions that only inner contracts use; an instructor need not read them.
-- What the iterator over a flight's places has left.
use Rattle.std.specs.Prelude.{List, [], ℕ, suc, ◌-◌, Option, None, Some}
use Rattle.path.specs.declared.SensedQuestion.{SensedQuestion}
use Rattle.flight.specs.declared.Stretch.{Stretch}
use Rattle.flight.specs.Flight.{duration}
use Rattle.flown.specs.declared.Flight.{Flight}
use Rattle.flown.specs.declared.Place.{Place}
use Rattle.flown.specs.declared.Places.{Places}
use Rattle.flown.specs.inner.Places.{flown, Seen, places_from}

-- from the second n on up to the end of the flight l
abbrev pub to_the_end : SensedQuestion → List Stretch → ℕ → List Seen
to_the_end s l n = places_from s l (suc (duration l) - n) n

-- a place and those after it, or none
abbrev pub from_place : Flight → Option Place → List Seen
from_place f None = []
from_place f (Some place) = to_the_end f.question.sensed (flown f.sense f.numbers.now) place.second.n

abbrev pub left_places : Places → List Seen
left_places p = from_place p.flight p.place
