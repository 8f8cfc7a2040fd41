-- The answer to a flight, and the number and values of each answer. x is an encounter, y the settings, z an advice, l a flight's numbers. What the answers mean
-- is `flight`'s: `Obeys` and `RightEntry` (specs/Obeying.antt, specs/Inside.antt); these are the forms that compute them.
use Rattle.std.specs.Prelude.{Bool, true, false, List, [], ◌∷◌, ℕ, ℤ, Option, Some, None, Result, Ok, Err, ⊤}
use Rattle.path.specs.declared.SensedQuestion.{SensedQuestion}
use Rattle.question.specs.declared.Encounter.{Encounter}
use Rattle.question.specs.declared.Settings.{Settings}
use Rattle.question.specs.RefusalNumbers.{refusal_number}
use Rattle.question.specs.Refusals.{sense_of}
use Rattle.sensed.specs.Sensed.{sensed_question}
use Rattle.judge.specs.Answers.{AnswerRecord, answers}
use Rattle.flight.specs.declared.Stretch.{Stretch}
use Rattle.flight.specs.HandedIn.{flight_of}
use Rattle.flight.specs.SensedFlight.{sensed_flight}
use Rattle.flight.specs.inner.Tests.{obeys_test, first_inside}
use Rattle.question.specs.declared.one_sided_advice.OneSidedAdvice.{OneSidedAdvice}
use Rattle.question.specs.OneSided.{asked}
use Rattle.candidate.specs.Advice.{flight_refusal}
use Rattle.question.specs.declared.refusal.Refusal.{Refusal}
use Rattle.candidate.specs.declared.Flown.{Flown}

-- the advice in its sense, and the flight in that sense
abbrev pub advice_in_sense : Encounter → Settings → OneSidedAdvice → SensedQuestion
advice_in_sense x y z = sensed_question x y (asked z)

abbrev pub flight_in_sense : OneSidedAdvice → List ℤ → List Stretch
flight_in_sense z l = sensed_flight (sense_of (asked z)) (flight_of l)

-- refused, or else flown
abbrev pub checked_flight : Result ⊤ Refusal → SensedQuestion → List Stretch → Result Flown Refusal
checked_flight (Err why) s l = Err why
checked_flight (Ok _) s l = Ok (record { obeys = obeys_test s l; inside = first_inside s l })

unfoldable pub flight_answer : Encounter → Settings → OneSidedAdvice → List ℤ → Result Flown Refusal
unfolding flight_refusal sensed_question obeys_test first_inside
flight_answer x y z l = checked_flight (flight_refusal x y z l) (advice_in_sense x y z) (flight_in_sense z l)

-- The number and values of each answer: "kind 68 one byte, the refusal number"; a flight that is flown has no record in the papers (0), and its values are 1
-- if it obeys, else 0; 1 if it is inside, else 0; and the second.
abbrev pub yes_number : Bool → ℕ
yes_number true = 1
yes_number false = 0

abbrev pub inside_numbers : Option ℕ → List ℕ
inside_numbers None = 0 ∷ []
inside_numbers (Some n) = 1 ∷ n ∷ []

abbrev pub flight_record : Result Flown Refusal → AnswerRecord
flight_record (Err why) = answers 68 (refusal_number why ∷ [])
flight_record (Ok flown) = answers 0 (yes_number flown.obeys ∷ inside_numbers flown.inside)
