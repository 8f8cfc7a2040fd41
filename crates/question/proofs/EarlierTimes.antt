-- What became of refusal 6: before document 02 let two-sided questions have a delay, it was also "a delay when two-sided". Without a delay, and one-sided, the
-- first refusal is the earlier one. Assumes nothing.
use Rattle.std.specs.Prelude.{Result, ⊤}
use mathlib.Core.Path.{◌≡◌, sym, ap, ◌∙◌}
use mathlib.Core.Bool.{Bool, true, false, not, ◌&&◌, ◌||◌, and-true, or-true}
use mathlib.Core.List.{List, [], ◌∷◌}
use lib.Dec.{T}
use lib.Ieee.Fits.{and_i}
use lib.IntN.{ℤ, pos}
use Rattle.limits.specs.Limits.{delay_within}
use Rattle.question.specs.declared.Encounter.{Encounter}
use Rattle.question.specs.declared.Settings.{Settings}
use Rattle.question.specs.declared.Question.{Question}
use Rattle.question.specs.Refusals.{is_number, two_sided, encounter_within, puck_within, delay_acceleration_within, sides_known, targets_within, strengths_within, upper_target_in_sense, upper_unused, limit_allowed, times_within, Check, check, first_refusal, refusal}
use Rattle.question.specs.declared.refusal.Refusal.{Refusal}

-- ---- the earlier rule: "6 delay or limit outside limits, or a delay when two-sided"
abbrev pub no_delay : Question → Bool
no_delay z = is_number (pos 0) z.delay

abbrev pub earlier_times_within : Question → Bool
earlier_times_within z = (delay_within z.delay && (not (two_sided z) || no_delay z)) && limit_allowed z

-- the checks, with any sixth
abbrev checks_with : Bool → Encounter → Settings → Question → List Check
checks_with times x y z =
    check Refusal.EncounterOutside (encounter_within x)
    ∷ check Refusal.PuckOutside (puck_within y)
    ∷ check Refusal.DelayAccelerationOutside (delay_acceleration_within y)
    ∷ check Refusal.SidesOrSenseUnknown (sides_known z)
    ∷ check Refusal.TargetOutside (targets_within z)
    ∷ check Refusal.StrengthOutside (strengths_within z)
    ∷ check Refusal.UpperTargetBelow (upper_target_in_sense z)
    ∷ check Refusal.UpperFieldsUsed (upper_unused z)
    ∷ check Refusal.TimesOutside times
    ∷ []

unfoldable pub earlier_refusal : Encounter → Settings → Question → Result ⊤ Refusal
earlier_refusal x y z = first_refusal (checks_with (earlier_times_within z) x y z)

-- ---- "A delay within limits is no longer a ground for 6"
pub delay_no_ground : (z : Question) → T (delay_within z.delay) → T (limit_allowed z) → T (times_within z)
delay_no_ground z delay limit = and_i (delay_within z.delay) (limit_allowed z) delay limit

-- ---- what stays
allowed : (z : Question) → (not (two_sided z) || no_delay z) ≡ true → earlier_times_within z ≡ times_within z
allowed z e = ap (λ (b : Bool). (delay_within z.delay && b) && limit_allowed z) e ∙ ap (λ (b : Bool). b && limit_allowed z) (and-true (delay_within z.delay))

module _ (x : Encounter) (y : Settings) (z : Question) where
  same_refusal : (not (two_sided z) || no_delay z) ≡ true → refusal x y z ≡ earlier_refusal x y z
  unfolding refusal earlier_refusal
  same_refusal e = ap (λ (times : Bool). first_refusal (checks_with times x y z)) (sym (allowed z e))

  pub refusal_without_delay : z.delay ≡ pos 0 → refusal x y z ≡ earlier_refusal x y z
  refusal_without_delay e = same_refusal (ap (λ (delay : ℤ). not (two_sided z) || is_number (pos 0) delay) e ∙ or-true (not (two_sided z)))

  pub refusal_one_sided : two_sided z ≡ false → refusal x y z ≡ earlier_refusal x y z
  refusal_one_sided e = same_refusal (ap (λ (two : Bool). not two || no_delay z) e)
