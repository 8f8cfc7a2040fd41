-- A flight as numbers: pairs, each a stretch's acceleration and seconds, in flight order.
use Rattle.std.specs.Prelude.{Bool, true, false, ◌&&◌, List, [], ◌∷◌, ℤ}
use Rattle.integers.specs.Extremes.{max0}
use Rattle.flight.specs.declared.Stretch.{Stretch}
use Rattle.flight.specs.FlightLimits.{flight_within}

-- Negative seconds stand as 0, which is outside the limits like them.
abbrev pub flight_of : List ℤ → List Stretch
flight_of [] = []
flight_of (g ∷ []) = []
flight_of (g ∷ t ∷ l) = record { acceleration = g; seconds = max0 t } ∷ flight_of l

-- each number has its pair
abbrev pub paired : List ℤ → Bool
paired [] = true
paired (g ∷ []) = false
paired (g ∷ t ∷ l) = paired l

-- "It refuses with 18 a flight outside these sizes"; numbers that are not pairs are no flight
abbrev pub numbers_within : List ℤ → Bool
numbers_within l = paired l && flight_within (flight_of l)
