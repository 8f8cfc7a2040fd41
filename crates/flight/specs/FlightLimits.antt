-- The sizes of a flight, whose breach gets 18: "1 to 64 stretches, each a whole upward acceleration from −2,000 to 2,000 and 1 to 600 whole seconds, at most 600
-- in total" (document 02).
use Rattle.std.specs.Prelude.{Bool, true, ◌&&◌, List, [], ◌∷◌, leb, pos, length}
use Rattle.limits.specs.Limits.{min_stretches, max_stretches, max_flight_seconds, flight_acceleration_within, stretch_seconds_within}
use Rattle.flight.specs.declared.Stretch.{Stretch}
use Rattle.flight.specs.Flight.{duration}

abbrev pub stretch_within : Stretch → Bool
stretch_within x = flight_acceleration_within x.acceleration && stretch_seconds_within (pos x.seconds)

abbrev pub stretches_within : List Stretch → Bool
stretches_within [] = true
stretches_within (x ∷ l) = stretch_within x && stretches_within l

abbrev pub count_within : List Stretch → Bool
count_within l = leb min_stretches (length l) && leb (length l) max_stretches

unfoldable pub flight_within : List Stretch → Bool
flight_within l = (count_within l && stretches_within l) && leb (duration l) max_flight_seconds
