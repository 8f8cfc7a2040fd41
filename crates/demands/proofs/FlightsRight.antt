-- The answer to a flight is right, from `flight`'s theorems; and where the judge's answer is clear, an obeying flight is kept out of the puck. Assumes nothing.
use Rattle.std.specs.Prelude.{Err, None, Ok, Option, Result, Some, ⊤}
use mathlib.Core.Path.{◌≡◌, refl, sym, ap, subst, ◌∙◌}
use mathlib.Core.Bool.{Bool, true, false}
use mathlib.Core.List.{List}
use Prim.Native.Nat.{ℕ}
use lib.IntN.{ℤ}
use Rattle.path.specs.declared.SensedQuestion.{SensedQuestion}
use Rattle.question.specs.declared.Encounter.{Encounter}
use Rattle.question.specs.declared.Settings.{Settings}
use Rattle.question.specs.declared.Question.{Question}
use Rattle.verdict.specs.declared.ClearSides.{ClearSides}
use Rattle.verdict.specs.declared.Verdict.{Verdict}
use Rattle.verdict.specs.declared.Verdict.TheVariants.{Clear}
use Rattle.verdict.specs.Verdicts.{verdict}
use Rattle.judge.specs.Answers.{answer}
use Rattle.judge.specs.Demand3.{SaysConflict}
use Rattle.judge.proofs.Demand3.{judged}
use Rattle.flight.specs.declared.Stretch.{Stretch}
use Rattle.flight.specs.HandedIn.{flight_of}
use Rattle.flight.specs.inner.Tests.{obeys_test, first_inside}
use Rattle.flight.proofs.ObeyingTests.{obeys_decided}
use Rattle.flight.proofs.InsideTests.{right_entry}
use Rattle.flight.proofs.ClearVerdict.{accepted_half_height, clear_never_inside}
use Rattle.candidate.specs.declared.OneSidedAdvice.{OneSidedAdvice}
use Rattle.question.specs.OneSided.{asked}
use Rattle.candidate.specs.Advice.{flight_refusal}
use Rattle.candidate.specs.FlightAnswers.{yes_number, advice_in_sense, flight_in_sense, checked_flight, flight_answer}
use Rattle.candidate.proofs.RefusedAsAsked.{accepted_flight}
use Rattle.binding.specs.declared.FlightResult.{FlightResult}
use Rattle.binding.specs.Flight.{flat_entry, flat_flight}
use Rattle.demands.specs.Flights.{RightlyFlown, ClearKeepsOut, flight_in}
use Rattle.demands.proofs.RefusalNumbers.{number_held}
use Rattle.question.specs.declared.refusal.Refusal.{Refusal}
use Rattle.candidate.specs.declared.Flown.{Flown}
use Rattle.question.specs.RefusalNumbers.{with_number}

-- a flown flight was accepted, and the answer is that of the tests
record Accepting (k : Result ⊤ Refusal) (s : SensedQuestion) (f : List Stretch) (o : Bool) : Type 0 where
  accepted : k ≡ Ok tt
  obeys : obeys_test s f ≡ o

abbrev tested : SensedQuestion → List Stretch → Flown
tested s f = record { obeys = obeys_test s f; inside = first_inside s f }

flown_accepted : (k : Result ⊤ Refusal) (s : SensedQuestion) (f : List Stretch) (flown : Flown) → checked_flight k s f ≡ Ok flown → Accepting k s f flown.obeys
flown_accepted (Ok _) s f flown e = let same : tested s f ≡ flown = cc in record { accepted = refl; obeys = ap (λ (v : Flown). v.obeys) same }
flown_accepted (Err why) s f flown e = cc

-- the answer of the definitions by its check, with a refusal's number
abbrev numbered_flight : SensedQuestion → List Stretch → Result ⊤ Refusal → Result Flown ℕ
numbered_flight s f k = with_number (checked_flight k s f)

said : (v : Verdict) (sides : ClearSides) → ◌≡◌ {A = Result Verdict Refusal} (Ok v) (Ok (Clear sides)) → v ≡ Clear sides
said v sides e = cc

not_conflict : (v : Verdict) (sides : ClearSides) → v ≡ Clear sides → ¬ SaysConflict v
not_conflict v sides e h = subst SaysConflict e h

module _ (x : Encounter) (y : Settings) (z : OneSidedAdvice) (l : List ℤ) where
  abbrev s : SensedQuestion
  s = advice_in_sense x y z

  abbrev f : List Stretch
  f = flight_in_sense z l

  pub flight_right : RightlyFlown x y z l (with_number (flight_answer x y z l))
  unfolding flight_answer
  flight_right = record {
    refused = λ why e. ap (numbered_flight s f) e;
    flown = λ e. (
      obeys_test s f,
      first_inside s f,
      ap (numbered_flight s f) e,
      obeys_decided s f,
      right_entry s f (accepted_half_height x y (asked z) (accepted_flight x y z l e).0),
    );
  }

  pub rightly : (r : Result Flown Refusal) → r ≡ flight_answer x y z l → RightlyFlown x y z l (with_number r)
  rightly r e = subst (λ (a : Result Flown Refusal). RightlyFlown x y z l (with_number a)) (sym e) flight_right

  -- ---- where the verdict is clear
  accepting : (flown : Flown) → flight_answer x y z l ≡ Ok flown → Accepting (flight_refusal x y z l) s f flown.obeys
  unfolding flight_answer
  accepting flown e = flown_accepted (flight_refusal x y z l) s f flown e

  clear_right : ClearKeepsOut x y z l (answer x y (asked z)) (flight_answer x y z l)
  clear_right = record {
    judged_too = λ flown e. (verdict (asked z) s, judged x y (asked z) (accepted_flight x y z l (accepting flown e).accepted).0);
    kept_out = λ sides flown clear e obeying.
        let a = accepting flown e in
        let accepted = (accepted_flight x y z l a.accepted).0 in
        let same : verdict (asked z) s ≡ Clear sides = said (verdict (asked z) s) sides (sym (judged x y (asked z) accepted) ∙ clear) in
        clear_never_inside x y (asked z) accepted refl (not_conflict (verdict (asked z) s) sides same) (flight_of l) ((obeys_decided s f).0 (a.obeys ∙ obeying));
  }

  pub kept_out : (q : Question) (r : Result Verdict Refusal) (t : Result Flown Refusal) → q ≡ asked z → r ≡ answer x y q → t ≡ flight_answer x y z l → ClearKeepsOut x y z l r t
  kept_out q r t a e g =
      subst (λ (j : Result Verdict Refusal). ClearKeepsOut x y z l j t) (sym (e ∙ ap (answer x y) a))
      (subst (ClearKeepsOut x y z l (answer x y (asked z))) (sym g) clear_right)

-- ---- in numbers
entry_held : (o : Bool) (e : Option ℕ) → flight_in (flat_entry (yes_number o) e) ≡ Ok (record { obeys = o; inside = e })
entry_held true None = refl
entry_held true (Some n) = refl
entry_held false None = refl
entry_held false (Some n) = refl

flight_held : (r : Result Flown Refusal) → flight_in (flat_flight r) ≡ with_number r
flight_held (Ok flown) = entry_held flown.obeys flown.inside
flight_held (Err why) = number_held why _

pub rightly_exported : (x : Encounter) (y : Settings) (z : OneSidedAdvice) (l : List ℤ) (out : FlightResult) → out ≡ flat_flight (flight_answer x y z l) → RightlyFlown x y z l (flight_in out)
rightly_exported x y z l out e = subst (RightlyFlown x y z l) (sym (ap flight_in e ∙ flight_held (flight_answer x y z l))) (flight_right x y z l)
