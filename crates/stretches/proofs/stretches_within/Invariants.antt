-- The loop of `stretches::stretches_within`: what is left to test, with the seconds so far, decides the whole; and the stretches that are left can bring no
-- more seconds than the sum may hold.
use Rattle.std.proofs.Common.{◌≡◌, ◌+◌, ◌*◌, ◌≤◌, ◌&&◌, leb, length}
use Rattle.limits.specs.Limits.{max_stretches, max_flight_seconds}
use Rattle.flight.specs.Flight.{duration}
use Rattle.flight.specs.FlightLimits.{stretches_within}
use Rattle.flight.specs.HandedIn.{flight_of}
use Rattle.stretches.proofs.stretches_within.Given as goal

abbrev pub invariant-loop-stretch : goal.invariant-loop-stretch
invariant-loop-stretch l =
    let flight = flight_of l.flight in
    let left = flight_of l.stretch-iterator.0.now in
    record {
      few : l.total + max_flight_seconds * length left ≤ max_flight_seconds * max_stretches;
      decides : (stretches_within flight && leb (duration flight) max_flight_seconds) ≡ (stretches_within left && leb (l.total + duration left) max_flight_seconds);
    }
