-- The answer at an instant as a struct of numbers, as it crosses to C and Rust, with 0 in the fields that are not used.
use Rattle.std.specs.Prelude.{Bool, true, false, ℕ, Option, Some, None, Result, Ok, Err}
use Rattle.question.specs.declared.refusal.Refusal.{Refusal}
use Rattle.question.specs.RefusalNumbers.{refusal_number}
use Rattle.candidate.specs.FlightAnswers.{yes_number}
use Rattle.named_instant.specs.declared.InstantAnswer.{InstantAnswer}
use Rattle.named_instant.specs.declared.InstantAnswer.TheVariants.{Judged, OutOfReach}
use Rattle.binding.specs.declared.InstantResult.{InstantResult}

-- a side that is not asked, one without a conflict at the instant, one with
abbrev pub side_number : Option Bool → ℕ
side_number None = 0
side_number (Some false) = 1
side_number (Some true) = 2

-- the refusal's number, or out of reach, or what holds
abbrev pub flat_instant : Result InstantAnswer Refusal → InstantResult
flat_instant (Err why) = record { refusal = refusal_number why; in_reach = 0; in_window = 0; lower = 0; upper = 0 }
flat_instant (Ok OutOfReach) = record { refusal = 0; in_reach = 0; in_window = 0; lower = 0; upper = 0 }
flat_instant (Ok (Judged found)) =
    record { refusal = 0; in_reach = 1; in_window = yes_number found.in_window; lower = side_number (Some found.lower); upper = side_number found.upper }
