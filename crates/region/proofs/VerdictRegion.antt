-- The regions are the judge's answer: an accepted question with one side and no limit is called clear exactly where Figure 3 (without a delay) and
-- Figure 5 (with any) hold, and so is every code from 1 to 16 that 17 does not refuse, with Table 1's columns in Figure 5. The judge is right about the paths (its Demand3), and
-- the region theorem is about the paths, so that nothing here speaks of the rule for the time shown. Assumes nothing.
use Rattle.std.specs.Prelude.{Err, None, Ok, Result}
use mathlib.Core.Path.{◌≡◌, refl, sym, ap, ◌∙◌, subst}
use mathlib.Core.Bool.{false, true, ◌&&◌}
use mathlib.Core.Logic.Iff
use mathlib.Core.Logic.{◌↔◌, ⊎_elim}
use Prim.Native.Nat.{ℕ, ◌<◌}
use native.Mathlib.Omega.{arith}
use lib.Dec.{T}
use lib.Ieee.Bits.{is_true}
use lib.Ieee.Fits.{and_i, and_l, and_r}
use lib.ListN.{get_or}
use lib.IntN.{ℤ, pos, neg_ℤ, ◌-ℤ◌, ◌*ℤ◌}
use lib.Signed.{le_z_yes}
use Rattle.integers.specs.Extremes.{max0}
use Rattle.integers.proofs.Certificates.{0≤pos, pos≤}
use Rattle.integers.proofs.Laws.{≤ℤ_trans, max0_same}
use Rattle.advisory.specs.declared.Sense.{Sense}
use Rattle.advisory.specs.declared.Instruction.{Instruction}
use Rattle.advisory.specs.Sign.{sensed}
use Rattle.advisory.specs.Catalogue.{rate_of, CodeWithin}
use Rattle.advisory.specs.Advised.{advised_of, instruction_in}
use Rattle.advisory.specs.inner.Codes.{InLimits, Standing}
use Rattle.advisory.proofs.CodeRanges.{standing}
use Rattle.advisory.proofs.Limits.{in_limits}
use Rattle.advisory.proofs.TablesAgree.{advised_is_table_1}
use Rattle.path.specs.declared.SensedQuestion.{SensedQuestion}
use Rattle.path.specs.declared.Side.TheVariants.{Lower}
use Rattle.path.specs.Conflict.{ConflictExists}
use Rattle.question.specs.declared.Encounter.{Encounter}
use Rattle.question.specs.declared.Settings.{Settings}
use Rattle.question.specs.declared.Question.{Question}
use Rattle.verdict.specs.declared.ClearSides.{ClearSides}
use Rattle.verdict.specs.declared.Verdict.{Verdict}
use Rattle.verdict.specs.declared.Verdict.TheVariants.{Clear, Conflict, Conflicts}
use Rattle.limits.specs.Limits.{distance_within, height_within, closing_speed_within, max_speed, speed_within, target_within, strength_within, delay_within, no_limit}
use Rattle.question.specs.Refusals.{two_sided, encounter_within, puck_within, delay_acceleration_within, sides_known, targets_within, strengths_within, times_within, refusal}
use Rattle.sensed.specs.Sensed.{limit_of, sensed_question}
use Rattle.coded.proofs.SenseNumbers.{sense_known, sense_back}
use Rattle.coded.specs.Coded.{instructed, maintainable, asked, coded_question}
use Rattle.verdict.specs.Verdicts.{verdict}
use Rattle.judge.specs.Answers.{answer, AnswerRecord, answer_record}
use Rattle.judge.specs.Demand3.{RightOneSided}
use Rattle.question.proofs.WithinLimits.{Between, between, within_in, within_limits}
use Rattle.sensed.proofs.AcceptedSizes.{accepted_sizes}
use Rattle.std.proofs.lemmas.Bool.{cond-true}
use Rattle.judge.proofs.Demand3.{judged, one_sided_lem}
use Rattle.region.specs.Formula.{Formula, Says}
use Rattle.region.specs.Figure5.{D_explᵈ}
use Rattle.region.specs.Regions.{L_expl, D_expl}
use Rattle.region.specs.JudgedRegion.{clear_record, advisory_region}
use Rattle.region.specs.inner.ClearExactly.{clear_verdict, clear_answer, ClearExactly, CodeClearExactly}
use Rattle.region.proofs.RegionTheorem.{immediate_region, delayed_region}
use Rattle.advisory.specs.declared.CodeError.{CodeError}
use Rattle.question.specs.declared.refusal.Refusal.{Refusal}

-- ---- clear is one verdict, one answer and one record
clear_verdict_lem : (s : SensedQuestion) (v : Verdict) → RightOneSided s v → (v ≡ clear_verdict) ↔ (¬ ConflictExists Lower s)
clear_verdict_lem s (Clear ClearSides.Lower) h = (λ _. h, λ _. refl)
clear_verdict_lem s (Clear ClearSides.Upper) h = absurd h
clear_verdict_lem s (Clear ClearSides.Both) h = absurd h
clear_verdict_lem s (Conflict t) h = (λ e. absurd (let z : ◌≡◌ {A = ℕ} 0 1 = cc in omega arith), λ none. absurd (none (h.instant, h.conflict)))
clear_verdict_lem s (Conflicts t u) h = absurd h

abbrev kind_of : AnswerRecord → ℕ
kind_of r = r.kind

abbrev first_value : AnswerRecord → ℕ
first_value r = get_or r.values 0 0

clear_record_lem : (r : Result Verdict Refusal) → answer_record r ≡ clear_record → r ≡ clear_answer
clear_record_lem (Ok (Clear ClearSides.Lower)) e = refl
clear_record_lem (Ok (Clear ClearSides.Upper)) e = absurd (omega (arith, ap first_value e))
clear_record_lem (Ok (Clear ClearSides.Both)) e = absurd (omega (arith, ap first_value e))
clear_record_lem (Ok (Conflict t)) e = absurd (omega (arith, ap kind_of e))
clear_record_lem (Ok (Conflicts t u)) e = absurd (omega (arith, ap kind_of e))
clear_record_lem (Err n) e = absurd (omega (arith, ap kind_of e))

module _ (x : Encounter) (y : Settings) (z : Question) (accepted : refusal x y z ≡ Ok tt) (one : two_sided z ≡ false) where
  -- a formula that says that no conflict time exists is the judge's "clear"
  clear_exactly : (region : Formula) → Says region ↔ (¬ ConflictExists Lower (sensed_question x y z)) → ClearExactly x y z region
  clear_exactly region no-conflict =
      let v = verdict z (sensed_question x y z) in
      let by_verdict : (v ≡ clear_verdict) ↔ Says region = Iff.trans (clear_verdict_lem (sensed_question x y z) v (one_sided_lem x y z accepted one)) (Iff.symm no-conflict) in
      let is = judged x y z accepted in
      let by_answer : (answer x y z ≡ clear_answer) ↔ Says region = Iff.trans (λ e. cc, λ e. is ∙ ap Ok e) by_verdict in
      record {
        by_verdict = by_verdict;
        by_answer = by_answer;
        by_result = λ r same. Iff.trans (λ e. clear_record_lem (answer x y z) (sym same ∙ e), λ e. same ∙ ap answer_record e) by_answer;
      }

  module _ (no-limit : z.limit ≡ no_limit) where
    endless : (sensed_question x y z).limit ≡ None
    unfolding sensed_question
    endless = ap limit_of no-limit

    -- Figure 5, with any delay
    pub clear_is_delayed_region : ClearExactly x y z (D_expl (sensed_question x y z))
    clear_is_delayed_region = clear_exactly (D_expl (sensed_question x y z)) (delayed_region (sensed_question x y z) (accepted_sizes x y z accepted) endless)

    -- Figure 3, without a delay
    pub clear_is_immediate_region : z.delay ≡ pos 0 → ClearExactly x y z (L_expl (sensed_question x y z))
    unfolding sensed_question
    clear_is_immediate_region at_once =
        clear_exactly (L_expl (sensed_question x y z)) (immediate_region (sensed_question x y z) (accepted_sizes x y z accepted) endless (ap max0 at_once))

-- ---- the questions of the codes
same_numbers : (F : ℤ → ℤ → ℤ → ℤ → Sense → Formula) {c c' p p' k k' e e' : ℤ} {w w' : Sense} → c ≡ c' → p ≡ p' → k ≡ k' → e ≡ e' → w ≡ w' → F c p k e w ≡ F c' p' k' e' w'
same_numbers F i j l m n = cc

module _ (x : Encounter) (y : Settings) (encounter : encounter_within x ≡ true) (puck : puck_within y ≡ true) (acceleration : delay_acceleration_within y ≡ true) where
  own_speed : Between (neg_ℤ (pos max_speed)) (pos max_speed) x.speed
  own_speed =
      let v = speed_within x.speed in
      let before = (distance_within x.distance && height_within x.height) && closing_speed_within x.closing_speed in
      between (neg_ℤ (pos max_speed)) (pos max_speed) x.speed (and_r before v (and_l (before && v) (speed_within x.intruder_speed) (subst T (sym encounter) tt)))

  module _ (i : Instruction) (limits : InLimits i) where
    abbrev question : Question
    question = instructed i x.speed no_limit

    targets : T (targets_within question)
    targets = and_i (target_within (rate_of i.target x.speed)) true (within_in (limits.target_from x.speed own_speed.from) (limits.target_to x.speed own_speed.to)) tt

    strengths : T (strengths_within question)
    strengths = and_i (strength_within (pos i.strength)) true (within_in (pos≤ limits.strength_from) (pos≤ limits.strength_to)) tt

    times : T (times_within question)
    times = and_i (delay_within (pos i.delay)) true (within_in (0≤pos i.delay) (pos≤ limits.delay_to)) tt

    -- the encounter and the settings meet conditions 1 to 3, an instruction meets the rest
    coded_accepted : refusal x y question ≡ Ok tt
    unfolding refusal
    coded_accepted =
        cond-true (encounter_within x) _ _ encounter
        ∙ cond-true (puck_within y) _ _ puck
        ∙ cond-true (delay_acceleration_within y) _ _ acceleration
        ∙ cond-true (sides_known question) _ _ (sense_known i.sense)
        ∙ cond-true (targets_within question) _ _ (is_true (targets_within question) targets)
        ∙ cond-true (strengths_within question) _ _ (is_true (strengths_within question) strengths)
        ∙ cond-true (times_within question) _ _ (is_true (times_within question) times)

    -- the question's region in the numbers of the encounter, the settings and the instruction
    same_region : D_expl (sensed_question x y question) ≡ advisory_region x y i
    unfolding D_expl sensed_question advisory_region
    same_region =
        let l = within_limits x y question coded_accepted in
        same_numbers
        (λ c p k e w. D_explᵈ c p k (pos i.strength) e (pos i.delay) x.distance (pos 2 *ℤ sensed w x.height) (sensed w (x.speed -ℤ x.intruder_speed)) (sensed w (rate_of i.target x.speed -ℤ x.intruder_speed)))
        (max0_same x.closing_speed l.closing.from)
        (max0_same y.radius l.radius.from)
        (max0_same y.half_height (≤ℤ_trans (le_z_yes tt) l.half.from))
        (max0_same y.delay_acceleration l.acceleration.from)
        (sense_back i.sense)

    instruction_clear : ClearExactly x y question (advisory_region x y i)
    instruction_clear = subst (ClearExactly x y question) same_region (clear_is_delayed_region x y question coded_accepted refl refl)

  -- a code byte that advises something, and nothing that the ownship can't maintain
  pub advised_code : (code : ℕ) → code < 256 → maintainable code x.speed ≡ true → (i : Instruction) → advised_of code ≡ Ok i → CodeClearExactly x y code
  unfolding coded_question
  advised_code code byte may i e =
      let limits = in_limits code byte i e in
      record {
        line = i;
        in_table_1 = sym (advised_is_table_1 code byte) ∙ ap instruction_in e;
        question = instructed i x.speed no_limit;
        asked = ap (λ (a : Result Instruction CodeError). asked code a x.speed no_limit) e ∙ cond-true _ _ _ may;
        accepted = coded_accepted i limits;
        clear = instruction_clear i limits;
      }

  -- every one of the sixteen codes, unless 17 refuses it
  pub sixteen_codes : (code : ℕ) → CodeWithin 1 16 code → maintainable code x.speed ≡ true → CodeClearExactly x y code
  sixteen_codes code range may = go (advised_of code) refl (standing code byte)
    where
      byte : code < 256
      byte = omega (arith, range.1)

      go : (a : Result Instruction CodeError) → advised_of code ≡ a → Standing code a → CodeClearExactly x y code
      go (Ok i) e stands = advised_code code byte may i e
      go (Err CodeError.NotJudged) e stands = absurd (omega (arith, range.1, stands.0))
      go (Err CodeError.Unknown) e stands = absurd (⊎_elim (λ (low : code < 1). omega (arith, range.0)) (λ (high : 18 < code). omega (arith, range.1)) stands)
