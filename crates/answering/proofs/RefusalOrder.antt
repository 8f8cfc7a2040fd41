-- "Coded: 7, 8, 9, 6.", with 17 "after 9 and before 6". Free: 7, 4, 5, 14, 15, 16, 6. In every state that a sheet can reach, a question's refusal is the first that its list of tests gives. Assumes nothing.
use Rattle.std.specs.Prelude.{Err, None, Ok, Option, Result, Some, ⊤}
use mathlib.Core.Path.{◌≡◌, refl, sym, ap, ◌∙◌}
use mathlib.Core.Bool.{Bool, true, false, cond, ◌&&◌}
use mathlib.Core.Logic.{⊎_elim}
use Prim.Native.Nat.{ℕ, ◌<◌}
use native.Mathlib.Omega.{arith}
use borrow.Author.Tests.{le-leb, lt-leb}
use lib.Dec.{T, leb}
use lib.IntN.{ℤ, pos, neg_ℤ}
use lib.Signed.{le_z}
use lib.Ieee.Bits.{is_true}
use lib.Ieee.Fits.{and_l, and_r}
use Rattle.std.specs.Cmp.Derive.{both_true}
use Rattle.std.proofs.lemmas.Bool.{and_left, and_right}
use Rattle.advisory.specs.declared.Instruction.{Instruction}
use Rattle.advisory.specs.Catalogue.{rate_of}
use Rattle.advisory.specs.Advised.{advised_of}
use Rattle.advisory.specs.inner.Codes.{Standing, InLimits}
use Rattle.advisory.proofs.CodeRanges.{standing}
use Rattle.advisory.proofs.Limits.{in_limits}
use Rattle.question.specs.declared.Encounter.{Encounter}
use Rattle.question.specs.declared.Settings.{Settings}
use Rattle.question.specs.declared.Question.{Question}
use Rattle.verdict.specs.declared.Verdict.{Verdict}
use Rattle.limits.specs.Limits.{distance_within, height_within, closing_speed_within, max_speed, speed_within, min_strength, max_strength, strength_within, max_delay, delay_within}
use Rattle.question.specs.Refusals.{encounter_within, puck_within, delay_acceleration_within, sides_known, targets_within, strengths_within, times_within, limit_allowed, first_refusal, question_checks, refusal}
use Rattle.sensed.specs.Sensed.{sensed_question}
use Rattle.coded.specs.Coded.{instructed, maintainable, asked, coded_question}
use Rattle.coded.proofs.SenseNumbers.{sense_known}
use Rattle.verdict.specs.Verdicts.{verdict}
use Rattle.judge.specs.Answers.{checked_answer, answer}
use Rattle.std.proofs.lemmas.Bool.{cond-true, cond-false}
use Rattle.question.proofs.WithinLimits.{Between, between}
use Rattle.answering.specs.declared.State.{State}
use Rattle.answering.specs.States.{StoredEncounterWithin, StoredWithin}
use Rattle.answering.specs.Replies.{asked_answer, coded_answer, free_answer, code_from, coded_checks, free_checks, refusal_in}
use Rattle.advisory.specs.declared.CodeError.{CodeError}
use Rattle.question.specs.declared.refusal.Refusal.{Refusal}

-- ---- the plain judge, where the encounter and the settings are within their limits: the question's own numbers
refused_is : (k : Result ⊤ Refusal) (v : Verdict) → refusal_in (checked_answer k v) ≡ k
refused_is (Ok _) v = refl
refused_is (Err n) v = refl

module _ (x : Encounter) (y : Settings) (met : T (encounter_within x)) (puck : T (puck_within y)) (acceleration : T (delay_acceleration_within y)) where
  plain_order : (z : Question) → refusal_in (answer x y z) ≡ first_refusal (question_checks z)
  unfolding answer refusal
  plain_order z =
      refused_is (refusal x y z) (verdict z (sensed_question x y z))
      ∙ cond-true (encounter_within x) _ _ (is_true (encounter_within x) met) ∙ cond-true (puck_within y) _ _ (is_true (puck_within y) puck) ∙ cond-true (delay_acceleration_within y) _ _ (is_true (delay_acceleration_within y) acceleration)

  -- ---- a judged code passes 4, 5 and 14 to 16, and its delay is within limits: 6 only through its limit
  own_speed : Between (neg_ℤ (pos max_speed)) (pos max_speed) x.speed
  own_speed =
      let r = distance_within x.distance in
      let h = height_within x.height in
      let c = closing_speed_within x.closing_speed in
      let v = speed_within x.speed in
      between (neg_ℤ (pos max_speed)) (pos max_speed) x.speed (and_r ((r && h) && c) v (and_l (((r && h) && c) && v) (speed_within x.intruder_speed) met))

  module _ (i : Instruction) (limits : InLimits i) (limit : ℤ) where
    sides_pass : sides_known (instructed i x.speed limit) ≡ true
    sides_pass = sense_known i.sense

    target_passes : speed_within (rate_of i.target x.speed) ≡ true
    target_passes =
        let t = rate_of i.target x.speed in
        both_true (is_true (le_z (neg_ℤ (pos max_speed)) t) (limits.target_from x.speed own_speed.from).le) (is_true (le_z t (pos max_speed)) (limits.target_to x.speed own_speed.to).le)

    strength_passes : strength_within (pos i.strength) ≡ true
    strength_passes = both_true (le-leb min_strength i.strength limits.strength_from) (le-leb i.strength max_strength limits.strength_to)

    targets_pass : targets_within (instructed i x.speed limit) ≡ true
    targets_pass = both_true target_passes refl

    strengths_pass : strengths_within (instructed i x.speed limit) ≡ true
    strengths_pass = both_true strength_passes refl

    delay_passes : delay_within (pos i.delay) ≡ true
    delay_passes = both_true (le-leb 0 i.delay (omega arith)) (le-leb i.delay max_delay limits.delay_to)

    times_by_limit : times_within (instructed i x.speed limit) ≡ limit_allowed (instructed i x.speed limit)
    times_by_limit = ap (λ (b : Bool). b && limit_allowed (instructed i x.speed limit)) delay_passes

    judged_order : refusal_in (answer x y (instructed i x.speed limit)) ≡ cond (limit_allowed (instructed i x.speed limit)) (Ok tt) (Err Refusal.TimesOutside)
    judged_order =
        let z = instructed i x.speed limit in
        plain_order z ∙ cond-true (sides_known z) _ _ sides_pass ∙ cond-true (targets_within z) _ _ targets_pass ∙ cond-true (strengths_within z) _ _ strengths_pass ∙ ap (λ (b : Bool). cond b (Ok tt) (Err Refusal.TimesOutside)) times_by_limit

    -- 17 comes before it
    maintained_order : (may : Bool)
        → refusal_in (asked_answer x y (cond may (Ok (instructed i x.speed limit)) (Err Refusal.NeverIssued))) ≡ cond may (cond (limit_allowed (instructed i x.speed limit)) (Ok tt) (Err Refusal.TimesOutside)) (Err Refusal.NeverIssued)
    maintained_order true = judged_order
    maintained_order false = refl

  asked_order : (code : ℕ) (limit : ℤ) (a : Result Instruction CodeError) → ((i : Instruction) → a ≡ Ok i → InLimits i) → Standing code a
      → refusal_in (asked_answer x y (asked code a x.speed limit)) ≡ first_refusal (coded_checks (Some x) code limit)
  asked_order code limit (Ok i) limits stands =
      maintained_order i (limits i refl) limit (maintainable code x.speed)
      ∙ sym (cond-true (code_from 1 18 code) _ _ (both_true (le-leb 1 code (omega arith)) (le-leb code 18 (omega arith))) ∙ cond-true (code_from 1 16 code) _ _ (both_true (le-leb 1 code (omega arith)) (le-leb code 16 (omega arith))))
  asked_order code limit (Err CodeError.NotJudged) limits stands =
      sym (cond-true (code_from 1 18 code) _ _ (both_true (le-leb 1 code (omega arith)) (le-leb code 18 (omega arith))) ∙ cond-false (code_from 1 16 code) _ _ (and_right (leb 1 code) (leb code 16) (lt-leb code 16 (omega arith))))
  asked_order code limit (Err CodeError.Unknown) limits stands =
      sym (cond-false (code_from 1 18 code) _ _ (⊎_elim (λ low. and_left (leb 1 code) (leb code 18) (lt-leb 1 code low)) (λ high. and_right (leb 1 code) (leb code 18) (lt-leb code 18 high)) stands))

-- ---- the theorems
free_from : (m : Option Encounter) (y : Settings) → StoredEncounterWithin m → T (puck_within y) → T (delay_acceleration_within y) → (z : Question)
    → refusal_in (free_answer m y z) ≡ first_refusal (free_checks m z)
unfolding free_answer
free_from None y met puck acceleration z = refl
free_from (Some x) y met puck acceleration z = plain_order x y met puck acceleration z

coded_from : (m : Option Encounter) (y : Settings) → StoredEncounterWithin m → T (puck_within y) → T (delay_acceleration_within y) → (code : ℕ) (limit : ℤ) → code < 256
    → refusal_in (coded_answer m y code limit) ≡ first_refusal (coded_checks m code limit)
unfolding coded_answer coded_question
coded_from None y met puck acceleration code limit h = refl
coded_from (Some x) y met puck acceleration code limit h =
    asked_order x y met puck acceleration code limit (advised_of code) (in_limits code h) (standing code h)

module _ (st : State) (w : StoredWithin st) where
  -- a free question: 7, 4, 5, 14, 15, 16, 6
  pub free_order : (z : Question) → refusal_in (free_answer st.encounter st.settings z) ≡ first_refusal (free_checks st.encounter z)
  free_order z = free_from st.encounter st.settings w.encounter w.puck w.acceleration z

  -- "Coded: 7, 8, 9, 6.", and 17 "after 9 and before 6"; a code is a byte
  pub coded_order : (code : ℕ) (limit : ℤ) → code < 256 → refusal_in (coded_answer st.encounter st.settings code limit) ≡ first_refusal (coded_checks st.encounter code limit)
  coded_order code limit h = coded_from st.encounter st.settings w.encounter w.puck w.acceleration code limit h
