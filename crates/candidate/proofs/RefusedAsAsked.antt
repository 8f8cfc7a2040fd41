-- An advice is refused as the one-sided question that it asks: 15 and 16 cannot occur, since it has no upper fields, and 4 only for its sense. So a flight is
-- refused like that question, and an accepted question's flight with 18 alone. Assumes nothing.
use Rattle.std.specs.Prelude.{Result, Ok, Err, ⊤}
use mathlib.Core.Path.{◌≡◌, refl, sym, ap, ◌∙◌}
use mathlib.Core.Bool.{Bool, true, false, cond, and-true}
use mathlib.Core.List.{List, [], ◌∷◌, ◌++◌}
use lib.IntN.{ℤ}
use Rattle.limits.specs.Limits.{target_within, strength_within}
use Rattle.question.specs.declared.Encounter.{Encounter}
use Rattle.question.specs.declared.Settings.{Settings}
use Rattle.question.specs.Refusals.{Check, check, first_refusal, refusal}
use Rattle.flight.specs.HandedIn.{numbers_within}
use Rattle.question.specs.declared.one_sided_advice.OneSidedAdvice.{OneSidedAdvice}
use Rattle.question.specs.OneSided.{asked}
use Rattle.candidate.specs.Advice.{advice_checks, flight_refusal}
use Rattle.question.specs.declared.refusal.Refusal.{Refusal}

-- one check after others: it is made where they accept
abbrev pub then_flight : Result ⊤ Refusal → Bool → Result ⊤ Refusal
then_flight (Err n) within = Err n
then_flight (Ok _) within = cond within (Ok tt) (Err Refusal.FlightOutside)

checked_last : (l : List Check) (within : Bool) → first_refusal (l ++ (check Refusal.FlightOutside within ∷ [])) ≡ then_flight (first_refusal l) within
checked_last [] within = refl
checked_last (c ∷ l) within = go c.passes (checked_last l within)
  where
    go : (b : Bool) → first_refusal (l ++ (check Refusal.FlightOutside within ∷ [])) ≡ then_flight (first_refusal l) within → cond b (first_refusal (l ++ (check Refusal.FlightOutside within ∷ []))) (Err c.refusal) ≡ then_flight (cond b (first_refusal l) (Err c.refusal)) within
    go true rest = rest
    go false rest = refl

module _ (x : Encounter) (y : Settings) (z : OneSidedAdvice) where
  -- a one-sided question is not asked for its upper target and upper strength
  pub refused_as_asked : refusal x y (asked z) ≡ first_refusal (advice_checks x y z)
  unfolding refusal
  refused_as_asked = simp (and-true (target_within z.target), and-true (strength_within z.strength))

  module _ (l : List ℤ) where
    -- a refused advice keeps its refusal, whatever the flight; an accepted one leaves 18
    pub flight_last : flight_refusal x y z l ≡ then_flight (refusal x y (asked z)) (numbers_within l)
    unfolding flight_refusal
    flight_last = checked_last (advice_checks x y z) (numbers_within l) ∙ ap (λ (k : Result ⊤ Refusal). then_flight k (numbers_within l)) (sym refused_as_asked)

    -- accepted: the question that is asked is, and the flight is within its sizes
    pub accepted_flight : flight_refusal x y z l ≡ Ok tt → (refusal x y (asked z) ≡ Ok tt) × (numbers_within l ≡ true)
    accepted_flight e = go (refusal x y (asked z)) (numbers_within l) (sym flight_last ∙ e)
      where
        go : (k : Result ⊤ Refusal) (b : Bool) → then_flight k b ≡ Ok tt → (k ≡ Ok tt) × (b ≡ true)
        go (Ok _) true h = (refl, refl)
        go (Ok _) false h = cc
        go (Err n) b h = cc
