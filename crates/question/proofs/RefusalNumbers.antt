-- A refusal's number determines it.
use mathlib.Core.Path.{◌≡◌, refl, sym, ap, ◌∙◌}
use mathlib.Core.List.{List, [], ◌∷◌}
use Prim.Native.Nat.{ℕ}
use lib.ListN.{get_or}
use Rattle.question.specs.declared.refusal.Refusal.{Refusal}
use Rattle.question.specs.RefusalNumbers.{refusal_number}

-- the refusals in the order of their numbers, from 1; the place 0 is none's
abbrev refusals : List Refusal
refusals =
    Refusal.EncounterOutside
    ∷ Refusal.EncounterOutside
    ∷ Refusal.PuckOutside
    ∷ Refusal.DelayAccelerationOutside
    ∷ Refusal.SidesOrSenseUnknown
    ∷ Refusal.TargetOutside
    ∷ Refusal.TimesOutside
    ∷ Refusal.NoEncounter
    ∷ Refusal.CodeUnknown
    ∷ Refusal.CodeNotJudged
    ∷ Refusal.SheetTooLong
    ∷ Refusal.KindUnknown
    ∷ Refusal.RecordCutShort
    ∷ Refusal.AreaTooShort
    ∷ Refusal.StrengthOutside
    ∷ Refusal.UpperTargetBelow
    ∷ Refusal.UpperFieldsUsed
    ∷ Refusal.NeverIssued
    ∷ Refusal.FlightOutside
    ∷ []

abbrev numbered : ℕ → Refusal
numbered n = get_or refusals n Refusal.EncounterOutside

found : (r : Refusal) → numbered (refusal_number r) ≡ r
found Refusal.EncounterOutside = refl
found Refusal.PuckOutside = refl
found Refusal.DelayAccelerationOutside = refl
found Refusal.SidesOrSenseUnknown = refl
found Refusal.TargetOutside = refl
found Refusal.TimesOutside = refl
found Refusal.NoEncounter = refl
found Refusal.CodeUnknown = refl
found Refusal.CodeNotJudged = refl
found Refusal.SheetTooLong = refl
found Refusal.KindUnknown = refl
found Refusal.RecordCutShort = refl
found Refusal.AreaTooShort = refl
found Refusal.StrengthOutside = refl
found Refusal.UpperTargetBelow = refl
found Refusal.UpperFieldsUsed = refl
found Refusal.NeverIssued = refl
found Refusal.FlightOutside = refl

pub number_determines : (r s : Refusal) → refusal_number r ≡ refusal_number s → r ≡ s
number_determines r s e = sym (found r) ∙ ap numbered e ∙ found s
