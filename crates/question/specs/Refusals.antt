-- "Who can cause a refusal": the condition of each number, and the order in which the entry for plain numbers tests them. x is an encounter, y the settings,
-- z a question.
use Rattle.std.specs.Prelude.{Bool, not, cond, ◌&&◌, ◌||◌, List, [], ◌∷◌, ℤ, pos, Err, Ok, Result, ⊤}
use Rattle.std.specs.Int.Signed.{le_z}
use Rattle.limits.specs.Limits.{within, distance_within, height_within, closing_speed_within, speed_within, radius_within, half_height_within, strength_within, acceleration_within, target_within, delay_within, limit_within, no_limit}
use Rattle.advisory.specs.declared.Sense.{Sense}
use Rattle.advisory.specs.declared.Sense.TheVariants.{Climb, Descend}
use Rattle.advisory.specs.Sign.{sensed}
use Rattle.question.specs.declared.Encounter.{Encounter}
use Rattle.question.specs.declared.Settings.{Settings}
use Rattle.question.specs.declared.Question.{Question}
use Rattle.question.specs.declared.refusal.Refusal.{Refusal}

-- x is the number n
abbrev pub is_number : ℤ → ℤ → Bool
is_number n = within n n

-- "sense 0 descend or 1 climb", "sides 1 or 2"
abbrev pub climbs : Question → Bool
climbs z = is_number (pos 1) z.sense

abbrev pub sense_of : Question → Sense
sense_of z = cond (climbs z) Climb Descend

abbrev pub two_sided : Question → Bool
two_sided z = is_number (pos 2) z.sides

-- "1 an encounter field outside its limits"
abbrev pub encounter_within : Encounter → Bool
encounter_within x = (((distance_within x.distance && height_within x.height) && closing_speed_within x.closing_speed) && speed_within x.speed) && speed_within x.intruder_speed

-- "2 puck; 3 e"
abbrev pub puck_within : Settings → Bool
puck_within y = radius_within y.radius && half_height_within y.half_height

abbrev pub delay_acceleration_within : Settings → Bool
delay_acceleration_within y = acceleration_within y.delay_acceleration

-- "4 sides or sense byte unknown"
abbrev pub sides_known : Question → Bool
sides_known z = (is_number (pos 1) z.sides || is_number (pos 2) z.sides) && (is_number (pos 0) z.sense || is_number (pos 1) z.sense)

-- What 5 was for in document 01 has four numbers in document 02. "Number 5 keeps only the target and upper target limits." A one-sided question has no upper target:
-- its "upper fields are tested for 16 alone".
abbrev pub targets_within : Question → Bool
targets_within z = target_within z.target && (not (two_sided z) || target_within z.upper_target)

-- 14: "a strength outside its limits or, two-sided, b < a"
abbrev pub strengths_ordered : Question → Bool
strengths_ordered z = le_z z.strength z.upper_strength

abbrev pub strengths_within : Question → Bool
strengths_within z = strength_within z.strength && (not (two_sided z) || (strength_within z.upper_strength && strengths_ordered z))

-- 15: "w × upper target below w × target when two-sided"
abbrev pub targets_ordered : Question → Bool
targets_ordered z = le_z (sensed (sense_of z) z.target) (sensed (sense_of z) z.upper_target)

abbrev pub upper_target_in_sense : Question → Bool
upper_target_in_sense z = not (two_sided z) || targets_ordered z

-- 16: "an upper field not 0 when one-sided"
abbrev pub upper_zero : Question → Bool
upper_zero z = is_number (pos 0) z.upper_target && is_number (pos 0) z.upper_strength

abbrev pub upper_unused : Question → Bool
upper_unused z = two_sided z || upper_zero z

-- "6 delay or limit outside limits"; "A delay within limits is no longer a ground for 6" when two-sided
abbrev pub limit_allowed : Question → Bool
limit_allowed z = limit_within z.limit || is_number no_limit z.limit

abbrev pub times_within : Question → Bool
times_within z = delay_within z.delay && limit_allowed z

-- a refusal, and the test that a question must pass not to get it
pub record Check : Type 0 where
  pub refusal : Refusal
  pub passes : Bool

abbrev pub check : Refusal → Bool → Check
check refusal passes = record { refusal = refusal; passes = passes }

-- the first of a list, in its order, that fails
abbrev pub first_refusal : List Check → Result ⊤ Refusal
first_refusal [] = Ok tt
first_refusal (c ∷ l) = cond c.passes (first_refusal l) (Err c.refusal)

-- those of a question's own fields, 4, 5, 14, 15, 16, 6: 14 to 16 are "tested right after 5 in rising order", and so before 6
abbrev pub question_checks : Question → List Check
question_checks z =
    check Refusal.SidesOrSenseUnknown (sides_known z)
    ∷ check Refusal.TargetOutside (targets_within z)
    ∷ check Refusal.StrengthOutside (strengths_within z)
    ∷ check Refusal.UpperTargetBelow (upper_target_in_sense z)
    ∷ check Refusal.UpperFieldsUsed (upper_unused z)
    ∷ check Refusal.TimesOutside (times_within z)
    ∷ []

-- "The entry that judges plain numbers": 1, 2, 3, then those of the question
abbrev pub plain_checks : Encounter → Settings → Question → List Check
plain_checks x y z =
    check Refusal.EncounterOutside (encounter_within x)
    ∷ check Refusal.PuckOutside (puck_within y)
    ∷ check Refusal.DelayAccelerationOutside (delay_acceleration_within y)
    ∷ question_checks z

unfoldable pub refusal : Encounter → Settings → Question → Result ⊤ Refusal
refusal x y z = first_refusal (plain_checks x y z)
