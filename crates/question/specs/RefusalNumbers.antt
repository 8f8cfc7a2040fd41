-- The number of each refusal, as answers carry it: "Who can cause a refusal" of document 01, and document 02.
use Rattle.std.specs.Prelude.{ℕ, Result, Ok, Err}
use Rattle.advisory.specs.declared.CodeError.{CodeError}
use Rattle.question.specs.declared.refusal.Refusal.{Refusal}

abbrev pub refusal_number : Refusal → ℕ
refusal_number Refusal.EncounterOutside = 1
refusal_number Refusal.PuckOutside = 2
refusal_number Refusal.DelayAccelerationOutside = 3
refusal_number Refusal.SidesOrSenseUnknown = 4
refusal_number Refusal.TargetOutside = 5
refusal_number Refusal.TimesOutside = 6
refusal_number Refusal.NoEncounter = 7
refusal_number Refusal.CodeUnknown = 8
refusal_number Refusal.CodeNotJudged = 9
refusal_number Refusal.SheetTooLong = 10
refusal_number Refusal.KindUnknown = 11
refusal_number Refusal.RecordCutShort = 12
refusal_number Refusal.AreaTooShort = 13
refusal_number Refusal.StrengthOutside = 14
refusal_number Refusal.UpperTargetBelow = 15
refusal_number Refusal.UpperFieldsUsed = 16
refusal_number Refusal.NeverIssued = 17
refusal_number Refusal.FlightOutside = 18

-- "8 code outside 1 to 18; 9 code 17 or 18"
abbrev pub code_refusal : CodeError → Refusal
code_refusal CodeError.NotJudged = Refusal.CodeNotJudged
code_refusal CodeError.Unknown = Refusal.CodeUnknown

-- an answer with the refusal's number in its place
abbrev pub with_number : {A : Type 0} → Result A Refusal → Result A ℕ
with_number (Ok x) = Ok x
with_number (Err why) = Err (refusal_number why)
