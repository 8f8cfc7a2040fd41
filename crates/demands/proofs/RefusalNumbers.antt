-- No refusal is numbered 0, by which C and Rust tell an answer from a refusal. Assumes nothing.
use Rattle.std.specs.Prelude.{Err, Result}
use mathlib.Core.Path.{◌≡◌}
use mathlib.Core.Bool.{cond}
use Prim.Native.Nat.{ℕ, ◌<◌}
use native.Mathlib.Omega.{arith}
use borrow.Author.Tests.{ne_eqb}
use lib.Dec.{eqb}
use Rattle.std.proofs.lemmas.Bool.{cond-false}
use Rattle.question.specs.declared.refusal.Refusal.{Refusal}
use Rattle.question.specs.RefusalNumbers.{refusal_number}

number_above : (why : Refusal) → 0 < refusal_number why
number_above Refusal.EncounterOutside = omega arith
number_above Refusal.PuckOutside = omega arith
number_above Refusal.DelayAccelerationOutside = omega arith
number_above Refusal.SidesOrSenseUnknown = omega arith
number_above Refusal.TargetOutside = omega arith
number_above Refusal.TimesOutside = omega arith
number_above Refusal.NoEncounter = omega arith
number_above Refusal.CodeUnknown = omega arith
number_above Refusal.CodeNotJudged = omega arith
number_above Refusal.SheetTooLong = omega arith
number_above Refusal.KindUnknown = omega arith
number_above Refusal.RecordCutShort = omega arith
number_above Refusal.AreaTooShort = omega arith
number_above Refusal.StrengthOutside = omega arith
number_above Refusal.UpperTargetBelow = omega arith
number_above Refusal.UpperFieldsUsed = omega arith
number_above Refusal.NeverIssued = omega arith
number_above Refusal.FlightOutside = omega arith

pub number_held : {A : Type 0} (why : Refusal) (other : Result A ℕ) → cond (eqb (refusal_number why) 0) other (Err (refusal_number why)) ≡ Err (refusal_number why)
number_held why other = cond-false _ _ _ (ne_eqb (refusal_number why) 0 (omega (arith, number_above why)))
