-- The number and values of an answer to a flight determine it. Assumes nothing.
use Rattle.std.specs.Prelude.{Option, Some, None, Result, Ok, Err}
use mathlib.Core.Path.{◌≡◌, refl, ap, ap₂}
use mathlib.Core.Bool.{Bool, true, false}
use Prim.Native.Nat.{ℕ}
use native.Mathlib.Omega.{arith}
use lib.ListN.{get_or}
use Rattle.question.specs.declared.refusal.Refusal.{Refusal}
use Rattle.question.proofs.RefusalNumbers.{number_determines}
use Rattle.judge.specs.Answers.{AnswerRecord}
use Rattle.candidate.specs.declared.Flown.{Flown}
use Rattle.candidate.specs.FlightAnswers.{yes_number, inside_numbers, flight_record}

kind : {a b : AnswerRecord} → a ≡ b → a.kind ≡ b.kind
kind e = ap (λ (r : AnswerRecord). r.kind) e

value : (i : ℕ) {a b : AnswerRecord} → a ≡ b → get_or a.values i 0 ≡ get_or b.values i 0
value i e = ap (λ (r : AnswerRecord). get_or r.values i 0) e

same_yes : (a b : Bool) → yes_number a ≡ yes_number b → a ≡ b
same_yes true true e = refl
same_yes false false e = refl
same_yes true false e = absurd (omega arith)
same_yes false true e = absurd (omega arith)

same_inside : (a b : Option ℕ) → get_or (inside_numbers a) 0 0 ≡ get_or (inside_numbers b) 0 0 → get_or (inside_numbers a) 1 0 ≡ get_or (inside_numbers b) 1 0 → a ≡ b
same_inside None None e f = refl
same_inside None (Some j) e f = absurd (omega arith)
same_inside (Some i) None e f = absurd (omega arith)
same_inside (Some i) (Some j) e f = ap Some f

pub flight_determined : (a b : Result Flown Refusal) → flight_record a ≡ flight_record b → a ≡ b
flight_determined (Err n) (Err m) e = ap Err (number_determines n m (value 0 e))
flight_determined (Err n) (Ok g) e = absurd (omega (arith, kind e))
flight_determined (Ok f) (Err m) e = absurd (omega (arith, kind e))
flight_determined (Ok f) (Ok g) e =
    ap₂ (λ (o : Bool) (i : Option ℕ). Ok (record { obeys = o; inside = i })) (same_yes f.obeys g.obeys (value 0 e)) (same_inside f.inside g.inside (value 1 e) (value 2 e))
