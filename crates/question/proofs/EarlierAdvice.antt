-- What became of refusal 5. Document 01's condition and order, before document 02 gave three of its parts numbers of their own, and that nothing else changed: the same
-- questions are refused, each other number stays, and a 5 is now 5, 14, 15 or 16. Assumes nothing.
use Rattle.std.specs.Prelude.{Err, Ok, Result, ⊤}
use mathlib.Core.Path.{◌≡◌, refl, sym, ap, ◌∙◌}
use mathlib.Core.Bool.{Bool, true, false, cond, not, ◌&&◌, ◌||◌}
use mathlib.Core.List.{List, [], ◌∷◌}
use mathlib.Core.Logic.{◌⊎◌, inl, inr, ◌↔◌}
use Prim.Native.Nat.{ℕ}
use native.Mathlib.Omega.{arith}
use Rattle.std.proofs.lemmas.Bool.{true≢false}
use Rattle.limits.specs.Limits.{target_within, strength_within}
use Rattle.question.specs.declared.Encounter.{Encounter}
use Rattle.question.specs.declared.Settings.{Settings}
use Rattle.question.specs.declared.Question.{Question}
use Rattle.question.specs.RefusalNumbers.{refusal_number}
use Rattle.question.specs.Refusals.{two_sided, encounter_within, puck_within, delay_acceleration_within, sides_known, targets_within, strengths_ordered, strengths_within, targets_ordered, upper_target_in_sense, upper_zero, upper_unused, times_within, Check, check, first_refusal, refusal}
use Rattle.question.specs.declared.refusal.Refusal.{Refusal}

-- ---- the earlier rule
-- "5 target or strength outside limits; two-sided, also an upper field outside limits, b < a, or w × upper target below w × target; one-sided, also
-- an upper field not 0"
abbrev pub earlier_advice_within : Question → Bool
earlier_advice_within z =
    (target_within z.target && strength_within z.strength)
    && cond (two_sided z)
    ((target_within z.upper_target && strength_within z.upper_strength) && (strengths_ordered z && targets_ordered z))
    (upper_zero z)

-- "The entry that judges plain numbers tests 1 to 6 in rising order"
abbrev pub earlier_checks : Encounter → Settings → Question → List Check
earlier_checks x y z =
    check Refusal.EncounterOutside (encounter_within x)
    ∷ check Refusal.PuckOutside (puck_within y)
    ∷ check Refusal.DelayAccelerationOutside (delay_acceleration_within y)
    ∷ check Refusal.SidesOrSenseUnknown (sides_known z)
    ∷ check Refusal.TargetOutside (earlier_advice_within z)
    ∷ check Refusal.TimesOutside (times_within z)
    ∷ []

unfoldable pub earlier_refusal : Encounter → Settings → Question → Result ⊤ Refusal
earlier_refusal x y z = first_refusal (earlier_checks x y z)

-- ---- what changed, of a question's earlier refusal and the one that it has now
abbrev pub OneOfFour : Result ⊤ Refusal → Type 0
OneOfFour now = (now ≡ Err Refusal.TargetOutside) ⊎ ((now ≡ Err Refusal.StrengthOutside) ⊎ ((now ≡ Err Refusal.UpperTargetBelow) ⊎ (now ≡ Err Refusal.UpperFieldsUsed)))

pub record OnlyFiveSplit (earlier now : Result ⊤ Refusal) : Type 0 where
  pub same_accepted : (now ≡ Ok tt) ↔ (earlier ≡ Ok tt)
  pub stays : ¬ (earlier ≡ Err Refusal.TargetOutside) → now ≡ earlier
  pub splits : earlier ≡ Err Refusal.TargetOutside → OneOfFour now

-- ---- the four tests and the one, by their parts: two-sided, target, upper target, strength, upper strength, strengths and targets in order, upper fields zero
module _ (rest : Result ⊤ Refusal) where
  abbrev four : Bool → Bool → Bool → Bool → Bool → Bool → Bool → Bool → Result ⊤ Refusal
  four two t t' s s' o i z =
      cond (t && (not two || t')) (cond (s && (not two || (s' && o))) (cond (not two || i) (cond (two || z) rest (Err Refusal.UpperFieldsUsed)) (Err Refusal.UpperTargetBelow)) (Err Refusal.StrengthOutside)) (Err Refusal.TargetOutside)

  abbrev one : Bool → Bool → Bool → Bool → Bool → Bool → Bool → Bool → Bool
  one two t t' s s' o i z = (t && s) && cond two ((t' && s') && (o && i)) z

  -- the one passes and the rest decides, or the one fails and one of the four numbers is given
  abbrev Split : Bool → Result ⊤ Refusal → Type 0
  Split passes now = ((passes ≡ true) × (now ≡ rest)) ⊎ ((passes ≡ false) × OneOfFour now)

  split : (two t t' s s' o i z : Bool) → Split (one two t t' s s' o i z) (four two t t' s s' o i z)
  split two false t' s s' o i z = inr (refl, inl refl)
  split false true t' false s' o i z = inr (refl, inr (inl refl))
  split true true false false s' o i z = inr (refl, inl refl)
  split true true true false s' o i z = inr (refl, inr (inl refl))
  split false true t' true s' o i false = inr (refl, inr (inr (inr refl)))
  split false true t' true s' o i true = inl (refl, refl)
  split true true false true s' o i z = inr (refl, inl refl)
  split true true true true false o i z = inr (refl, inr (inl refl))
  split true true true true true false i z = inr (refl, inr (inl refl))
  split true true true true true true false z = inr (refl, inr (inr (inl refl)))
  split true true true true true true true z = inl (refl, refl)

-- ---- what is refused is not accepted
refused_not : {n : Refusal} → ¬ (◌≡◌ {A = Result ⊤ Refusal} (Ok tt) (Err n))
refused_not e = let z : ◌≡◌ {A = ℕ} 0 1 = cc in omega arith

four_refuse : (now : Result ⊤ Refusal) → OneOfFour now → ¬ (now ≡ Ok tt)
four_refuse now (inl h) e = refused_not (sym e ∙ h)
four_refuse now (inr (inl h)) e = refused_not (sym e ∙ h)
four_refuse now (inr (inr (inl h))) e = refused_not (sym e ∙ h)
four_refuse now (inr (inr (inr h))) e = refused_not (sym e ∙ h)

-- ---- a test before both leaves them so
same : (k : Result ⊤ Refusal) → ¬ (k ≡ Err Refusal.TargetOutside) → OnlyFiveSplit k k
same k h = record { same_accepted = (λ e. e, λ e. e); stays = λ e. refl; splits = λ e. absurd (h e) }

behind : (b : Bool) (n : Refusal) {earlier now : (Result ⊤ Refusal)} → ¬ (n ≡ Refusal.TargetOutside) → OnlyFiveSplit earlier now → OnlyFiveSplit (cond b earlier (Err n)) (cond b now (Err n))
behind true n h s = s
behind false n h s = same (Err n) (λ e. h (same_refusal e))
  where
    same_refusal : {m k : Refusal} → ◌≡◌ {A = Result ⊤ Refusal} (Err m) (Err k) → m ≡ k
    same_refusal e = cc

module _ (x : Encounter) (y : Settings) (z : Question) where
  abbrev rest : Result ⊤ Refusal
  rest = cond (times_within z) (Ok tt) (Err Refusal.TimesOutside)

  -- where the one test passes, what is left is 6 or nothing
  rest_not_five : (b : Bool) → ¬ (◌≡◌ {A = Result ⊤ Refusal} (cond b (Ok tt) (Err Refusal.TimesOutside)) (Err Refusal.TargetOutside))
  rest_not_five true e = refused_not e
  rest_not_five false e = let z : ◌≡◌ {A = ℕ} 0 1 = cc in omega arith

  advice_split : OnlyFiveSplit (cond (earlier_advice_within z) rest (Err Refusal.TargetOutside)) (first_refusal (check Refusal.TargetOutside (targets_within z) ∷ check Refusal.StrengthOutside (strengths_within z) ∷ check Refusal.UpperTargetBelow (upper_target_in_sense z) ∷ check Refusal.UpperFieldsUsed (upper_unused z) ∷ check Refusal.TimesOutside (times_within z) ∷ []))
  advice_split = go _ _ (split rest (two_sided z) (target_within z.target) (target_within z.upper_target) (strength_within z.strength) (strength_within z.upper_strength) (strengths_ordered z) (targets_ordered z) (upper_zero z))
    where
      go : (b : Bool) (now : Result ⊤ Refusal) → Split rest b now → OnlyFiveSplit (cond b rest (Err Refusal.TargetOutside)) now
      go true now (inl h) = record { same_accepted = (λ e. sym h.1 ∙ e, λ e. h.1 ∙ e); stays = λ e. h.1; splits = λ e. absurd (rest_not_five (times_within z) e) }
      go true now (inr h) = absurd (true≢false h.0)
      go false now (inl h) = absurd (true≢false (sym h.0))
      go false now (inr h) = record { same_accepted = (λ e. absurd (four_refuse now h.1 e), λ e. absurd (refused_not (sym e))); stays = λ e. absurd (e refl); splits = λ e. h.1 }

  pub only_five_split : OnlyFiveSplit (earlier_refusal x y z) (refusal x y z)
  unfolding earlier_refusal refusal
  only_five_split =
      behind (encounter_within x) Refusal.EncounterOutside (λ e. omega (arith, ap refusal_number e))
      (behind (puck_within y) Refusal.PuckOutside (λ e. omega (arith, ap refusal_number e))
      (behind (delay_acceleration_within y) Refusal.DelayAccelerationOutside (λ e. omega (arith, ap refusal_number e))
      (behind (sides_known z) Refusal.SidesOrSenseUnknown (λ e. omega (arith, ap refusal_number e))
      advice_split)))
