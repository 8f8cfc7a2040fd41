-- The answer to a flight as a struct of numbers, as it crosses to C and Rust, with 0 in the fields that are not used.
use Rattle.std.specs.Prelude.{ℕ, Option, Some, None, Result, Ok, Err}
use Rattle.candidate.specs.FlightAnswers.{yes_number}
use Rattle.binding.specs.declared.FlightResult.{FlightResult}
use Rattle.question.specs.declared.refusal.Refusal.{Refusal}
use Rattle.candidate.specs.declared.Flown.{Flown}
use Rattle.question.specs.RefusalNumbers.{refusal_number}

-- never inside, or inside first in the second n
abbrev pub flat_entry : ℕ → Option ℕ → FlightResult
flat_entry obeys None = record { refusal = 0; obeys = obeys; inside = 0; second = 0 }
flat_entry obeys (Some n) = record { refusal = 0; obeys = obeys; inside = 1; second = n }

-- the refusal's number, or whether it obeys and when it is inside
abbrev pub flat_flight : Result Flown Refusal → FlightResult
flat_flight (Err why) = record { refusal = refusal_number why; obeys = 0; inside = 0; second = 0 }
flat_flight (Ok flown) = flat_entry (yes_number flown.obeys) flown.inside
