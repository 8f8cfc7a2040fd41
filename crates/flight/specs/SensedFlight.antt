-- A flight as it is handed in, with upward accelerations, in the sense of a question: "sensed acceleration" is w times the upward one.
use Rattle.std.specs.Prelude.{List, [], ◌∷◌}
use Rattle.advisory.specs.declared.Sense.{Sense}
use Rattle.advisory.specs.Sign.{sensed}
use Rattle.flight.specs.declared.Stretch.{Stretch}

abbrev pub sensed_stretch : Sense → Stretch → Stretch
sensed_stretch w x = record { acceleration = sensed w x.acceleration; seconds = x.seconds }

abbrev pub sensed_flight : Sense → List Stretch → List Stretch
sensed_flight w [] = []
sensed_flight w (x ∷ l) = sensed_stretch w x ∷ sensed_flight w l
