-- "Say whether it obeys a one-sided advice": what is refused. x is an encounter, y the settings, z an advice, l a flight's numbers.
use Rattle.std.specs.Prelude.{◌&&◌, ◌||◌, List, [], ◌∷◌, ◌++◌, ℤ, pos, Result, ⊤}
use Rattle.limits.specs.Limits.{target_within, strength_within, delay_within, limit_within, no_limit}
use Rattle.question.specs.declared.Encounter.{Encounter}
use Rattle.question.specs.declared.Settings.{Settings}
use Rattle.question.specs.Refusals.{is_number, encounter_within, puck_within, delay_acceleration_within, Check, check, first_refusal}
use Rattle.flight.specs.HandedIn.{numbers_within}
use Rattle.question.specs.declared.one_sided_advice.OneSidedAdvice.{OneSidedAdvice}
use Rattle.question.specs.declared.refusal.Refusal.{Refusal}

-- "the refusals of encounter, puck, e and advice", in the order of the entry for plain numbers; an advice has no sides and no upper fields to be refused for
-- (`refused_as_asked`)
abbrev pub advice_checks : Encounter → Settings → OneSidedAdvice → List Check
advice_checks x y z =
    check Refusal.EncounterOutside (encounter_within x)
    ∷ check Refusal.PuckOutside (puck_within y)
    ∷ check Refusal.DelayAccelerationOutside (delay_acceleration_within y)
    ∷ check Refusal.SidesOrSenseUnknown (is_number (pos 0) z.sense || is_number (pos 1) z.sense)
    ∷ check Refusal.TargetOutside (target_within z.target)
    ∷ check Refusal.StrengthOutside (strength_within z.strength)
    ∷ check Refusal.TimesOutside (delay_within z.delay && (limit_within z.limit || is_number no_limit z.limit))
    ∷ []

-- "It refuses with 18 a flight outside these sizes, after the refusals of encounter, puck, e and advice."
abbrev pub flight_checks : Encounter → Settings → OneSidedAdvice → List ℤ → List Check
flight_checks x y z l = advice_checks x y z ++ (check Refusal.FlightOutside (numbers_within l) ∷ [])

unfoldable pub flight_refusal : Encounter → Settings → OneSidedAdvice → List ℤ → Result ⊤ Refusal
flight_refusal x y z l = first_refusal (flight_checks x y z l)
