-- "Judging a candidate's flight" (document 02): what it asks of the answer to a flight. x is an encounter, y the settings, z a one-sided advice, l the flight's
-- numbers.
use Rattle.std.specs.Prelude.{◌≡◌, Bool, true, cond, List, ◌↔◌, ℕ, eqb, ℤ, Err, None, Ok, Option, Result, Some}
use Rattle.question.specs.declared.Encounter.{Encounter}
use Rattle.question.specs.declared.Settings.{Settings}
use Rattle.question.specs.Refusals.{first_refusal, refusal}
use Rattle.verdict.specs.declared.ClearSides.{ClearSides}
use Rattle.verdict.specs.declared.Verdict.{Verdict}
use Rattle.verdict.specs.declared.Verdict.TheVariants.{Clear}
use Rattle.flight.specs.Obeying.{Obeys}
use Rattle.flight.specs.Inside.{RightEntry, NeverInside}
use Rattle.flight.proofs.FlightExamples as examples
use Rattle.candidate.specs.declared.OneSidedAdvice.{OneSidedAdvice}
use Rattle.question.specs.OneSided.{asked}
use Rattle.candidate.specs.Advice.{advice_checks, flight_refusal}
use Rattle.candidate.specs.FlightAnswers.{advice_in_sense, flight_in_sense}
use Rattle.candidate.proofs.RefusedAsAsked as advice
use Rattle.binding.specs.declared.FlightResult.{FlightResult}
use Rattle.question.specs.declared.refusal.Refusal.{Refusal}
use Rattle.candidate.specs.declared.Flown.{Flown}
use Rattle.question.specs.RefusalNumbers.{refusal_number}

-- "Say whether it obeys a one-sided advice", over every rational time; "Say also whether it is inside the puck .., and if so the least whole number of seconds n"
abbrev pub FlownAs : Encounter → Settings → OneSidedAdvice → List ℤ → Result Flown ℕ → Type 0
FlownAs x y z l answer =
    let s = advice_in_sense x y z in
    let flight = flight_in_sense z l in
    (obeys : Bool) × (entry : Option ℕ) × (answer ≡ Ok (record { obeys = obeys; inside = entry })) × ((obeys ≡ true) ↔ Obeys s flight) × RightEntry s flight entry

-- "It refuses with 18 a flight outside these sizes, after the refusals of encounter, puck, e and advice."
pub record RightlyFlown (x : Encounter) (y : Settings) (z : OneSidedAdvice) (l : List ℤ) (answer : Result Flown ℕ) : Type 0 where
  -- the first of 1, 2, 3, 4, 5, 14, 6, 18 whose condition the numbers meet
  pub refused : (why : Refusal) → flight_refusal x y z l ≡ Err why → answer ≡ Err (refusal_number why)
  pub flown : flight_refusal x y z l ≡ Ok tt → FlownAs x y z l answer

-- the refusals of encounter, puck, e and advice are those of the judge for the one-sided question that the advice asks
pub refused_as_asked : (x : Encounter) (y : Settings) (z : OneSidedAdvice) → refusal x y (asked z) ≡ first_refusal (advice_checks x y z)
refused_as_asked = advice.refused_as_asked

-- "Prove that where the verdict is clear, no obeying flight is inside the puck at a rational time up to its end and the limit." `judged` is the judge's answer to
-- the question that the advice asks, `answer` the answer to a flight against it. For the verdict "conflict" nothing is promised of flights: see M5, below.
pub record ClearKeepsOut (x : Encounter) (y : Settings) (z : OneSidedAdvice) (l : List ℤ) (judged : Result Verdict Refusal) (answer : Result Flown Refusal) : Type 0 where
  -- where a flight is not refused, neither is the question
  pub judged_too : (flown : Flown) → answer ≡ Ok flown → (verdict : Verdict) × (judged ≡ Ok verdict)
  pub kept_out : (sides : ClearSides) (flown : Flown) → judged ≡ Ok (Clear sides) → answer ≡ Ok flown → flown.obeys ≡ true → NeverInside (advice_in_sense x y z) (flight_in_sense z l)

-- Of two flights that obey the advice of M5, a conflict, one is inside and the other is not.
pub m5_inside : Obeys examples.m5 (examples.in_m5 examples.just) × RightEntry examples.m5 (examples.in_m5 examples.just) (Some 2)
m5_inside = examples.m5_inside

pub m5_outside : Obeys examples.m5 (examples.in_m5 examples.quick) × RightEntry examples.m5 (examples.in_m5 examples.quick) None
m5_outside = examples.m5_outside

-- the answer in the struct of numbers that C and Rust get
abbrev pub flight_in : FlightResult → Result Flown ℕ
flight_in f = cond (eqb f.refusal 0) (Ok (record { obeys = eqb f.obeys 1; inside = cond (eqb f.inside 0) None (Some f.second) })) (Err f.refusal)
