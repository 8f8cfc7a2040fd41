-- The band of an accepted two-sided question: it is clear exactly if the intruder's height is outside the band at every rational time of the window. What 14 tests gives
-- a ≤ b (`strengths_in_order`), what 15 tests that the targets are in order (`targets_in_order`), 2 gives k ≥ 1. Assumes nothing.
use Rattle.std.specs.Prelude.{Ok, Result}
use mathlib.Core.Path.{◌≡◌, sym, subst}
use mathlib.Core.Bool.{true, not, ◌&&◌, ◌||◌}
use mathlib.Core.List.{[], ◌∷◌}
use mathlib.Core.Logic.Iff
use mathlib.Core.Logic.{◌↔◌}
use Prim.Native.Nat.{ℕ, ◌≤◌}
use lib.Dec.{T}
use lib.Ieee.Fits.{and_r}
use lib.IntN.{ℤ, ◌-ℤ◌}
use lib.Signed.{◌≤ℤ◌, le_z_yes}
use Rattle.limits.specs.Limits.{strength_within}
use Rattle.integers.specs.Extremes.{max0}
use Rattle.integers.proofs.Quotation.{quote}
use Rattle.integers.proofs.Certificates.{by≤, gap≤, nat≤}
use Rattle.integers.proofs.Laws.{≤ℤ_trans, max0_le, max0_ge}
use Rattle.advisory.specs.declared.Sense.{Sense}
use Rattle.advisory.specs.declared.Sense.TheVariants.{Climb, Descend}
use Rattle.advisory.specs.Sign.{sensed}
use Rattle.path.specs.declared.SensedQuestion.{SensedQuestion}
use Rattle.path.specs.Letters.{k, q, a, upper_q, b}
use Rattle.question.specs.declared.Encounter.{Encounter}
use Rattle.question.specs.declared.Settings.{Settings}
use Rattle.question.specs.declared.Question.{Question}
use Rattle.question.specs.Refusals.{sense_of, two_sided, strengths_ordered, strengths_within, targets_ordered, upper_target_in_sense, refusal}
use Rattle.question.proofs.WithinLimits.{asked_where, within_limits}
use Rattle.sensed.specs.Sensed.{sensed_question}
use Rattle.sensed.proofs.AcceptedSizes.{accepted_upper_sizes}
use Rattle.verdict.specs.declared.Verdict.{Verdict}
use Rattle.verdict.specs.declared.Verdict.TheVariants.{Clear, Conflict, Conflicts}
use Rattle.verdict.specs.Verdicts.{verdict}
use Rattle.judge.specs.Answers.{answer}
use Rattle.judge.specs.Demand3.{SaysConflict}
use Rattle.judge.proofs.Demand3.{judged, two_sided_exactly}
use Rattle.band.specs.Band.{lower_height, upper_height, NoHigher, AlwaysOutside, SaysClear}
use Rattle.band.proofs.PathOrder as order
use Rattle.band.proofs.BandTheorem.{outside_exactly}
use Rattle.question.specs.declared.refusal.Refusal.{Refusal}

clear_no_conflict : (v : Verdict) → SaysClear (Ok v) ↔ (¬ SaysConflict v)
clear_no_conflict (Clear sides) = (λ _ c. c, λ _. tt)
clear_no_conflict (Conflict t) = (λ c. absurd c, λ n. n tt)
clear_no_conflict (Conflicts t u) = (λ c. absurd c, λ n. n tt)

not_either : {A B : Type 0} → A ↔ B → (¬ A) ↔ (¬ B)
not_either e = (λ n y. n (e.1 y), λ n x. n (e.0 x))

max0_mono : (x y : ℤ) → x ≤ℤ y → max0 x ≤ max0 y
max0_mono x y h = max0_le x (max0 y) (≤ℤ_trans h (max0_ge y))

-- w × (x − i) and w × (y − i) are as w × x and w × y
sensed_order : (w : Sense) (x y i : ℤ) → sensed w x ≤ℤ sensed w y → sensed w (x -ℤ i) ≤ℤ sensed w (y -ℤ i)
sensed_order Climb x y i h = by≤ [] (x ∷ y ∷ i ∷ []) (gap≤ h) (λ v. search quote depth 20) tt
sensed_order Descend x y i h = by≤ [] (x ∷ y ∷ i ∷ []) (gap≤ h) (λ v. search quote depth 20) tt

-- ---- what the tests give
module _ (x : Encounter) (y : Settings) (z : Question) (two : two_sided z ≡ true) where
  pub strengths_in_order : T (strengths_within z) → a (sensed_question x y z) ≤ b (sensed_question x y z)
  unfolding sensed_question
  strengths_in_order t =
      let within = strength_within z.upper_strength in
      let upper = within && strengths_ordered z in
      max0_mono z.strength z.upper_strength (le_z_yes (and_r within (strengths_ordered z) (asked_where (two_sided z) upper (and_r (strength_within z.strength) (not (two_sided z) || upper) t) two)))

  pub targets_in_order : T (upper_target_in_sense z) → q (sensed_question x y z) ≤ℤ upper_q (sensed_question x y z)
  unfolding sensed_question
  targets_in_order t = sensed_order (sense_of z) z.target z.upper_target x.intruder_speed (le_z_yes (asked_where (two_sided z) (targets_ordered z) t two))

-- ---- the theorems, whose only premises are an accepted question and that it is two-sided
module _ (x : Encounter) (y : Settings) (z : Question) (accepted : refusal x y z ≡ Ok tt) (two : two_sided z ≡ true) where
  abbrev s : SensedQuestion
  s = sensed_question x y z

  strengths : a s ≤ b s
  strengths = strengths_in_order x y z two (within_limits x y z accepted).strengths

  targets : q s ≤ℤ upper_q s
  targets = targets_in_order x y z two (within_limits x y z accepted).in_sense

  thickness : 1 ≤ k s
  unfolding sensed_question
  thickness = nat≤ {m = 1} {n = max0 y.half_height} (≤ℤ_trans (within_limits x y z accepted).half.from (max0_ge y.half_height))

  -- f ≤ j
  pub paths_do_not_cross : (n m : ℕ) → NoHigher (lower_height (sensed_question x y z) n m) (upper_height (sensed_question x y z) n m)
  paths_do_not_cross = order.paths_do_not_cross s strengths targets

  pub clear_outside_band : SaysClear (answer x y z) ↔ AlwaysOutside (sensed_question x y z)
  clear_outside_band =
      subst (λ (r : Result Verdict Refusal). SaysClear r ↔ AlwaysOutside s) (sym (judged x y z accepted))
      (Iff.trans (clear_no_conflict (verdict z s)) (Iff.trans (not_either (two_sided_exactly x y z accepted two))
      (Iff.symm (outside_exactly s strengths targets (accepted_upper_sizes x y z accepted two).b_lo thickness))))
