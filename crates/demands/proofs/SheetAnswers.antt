-- The demands of an answered sheet, from the sheet's theorems: its refusals, its bytes, and each of its records in its place. Assumes nothing.
use Rattle.std.specs.Prelude.{Err, Ok, Option, Result, Some}
use mathlib.Core.Path.{◌≡◌, refl, sym, ap, subst, ◌∙◌}
use mathlib.Core.Bool.{Bool, false}
use mathlib.Core.List.{List, ◌∷◌, ◌++◌}
use Prim.Native.Nat.{ℕ, ◌<◌}
use borrow.Author.Tests.{le-leb}
use lib.Dec.{T}
use lib.Ieee.Bits.{is_true}
use lib.IntN.{ℤ}
use lib.ListN.{length, drop}
use Rattle.advisory.specs.Catalogue.{CodeWithin}
use Rattle.question.specs.declared.Encounter.{Encounter}
use Rattle.question.specs.declared.Question.{Question}
use Rattle.limits.specs.Limits.{no_limit}
use Rattle.question.specs.Refusals.{encounter_within, puck_within, delay_acceleration_within}
use Rattle.coded.specs.Coded.{coded_question}
use Rattle.coded.proofs.EarlierCodes.{issued}
use Rattle.std.proofs.lemmas.Bool.{cond-true}
use Rattle.judge.specs.Answers.{answer, answer_record}
use Rattle.record.specs.declared.Record.{Record}
use Rattle.record.specs.Records.{records}
use Rattle.program.proofs.ReadEnough.{too_long}
use Rattle.record.specs.SheetCheck.{longest_sheet}
use Rattle.reply.specs.AnswerBytes.{reply_bytes}
use Rattle.reply.proofs.RefusalsNumbered.{answer_bytes}
use Rattle.answering.specs.declared.State.{State}
use Rattle.answering.specs.States as states
use Rattle.answering.specs.States.{starting_state, with_puck, with_delay_acceleration, state_after, state_after_all}
use Rattle.answering.specs.Replies.{settings_reply, asked_answer, coded_answer, free_answer, reply_to}
use Rattle.answering.proofs.StoredWithinLimits.{stored_within}
use Rattle.answering.proofs.RefusalOrder.{free_order, coded_order}
use Rattle.region.proofs.VerdictRegion.{sixteen_codes}
use Rattle.sheet.specs.WholeSheet.{answers_from, sheet_answer, outcome, area_for, area_after}
use Rattle.sheet.proofs.RecordsInOrder.{each_record}
use Rattle.sheet.proofs.WholeSheetRefusals.{refused_in_any_area, too_short, long_enough}
use Rattle.demands.specs.Demand2.{CodeDemand2}
use Rattle.demands.specs.Maintain.{NeverIssued}
use Rattle.demands.specs.PlainAnswer.{RightlyAnswered}
use Rattle.demands.specs.Sheets.{AnsweredBy, FreeAnswered, CodedAnswered, EachRecord, SheetAnswered}
use Rattle.demands.proofs.PlainAnswers.{answer_right}
use Rattle.demands.proofs.MaintainAnswers.{maintain_answered}
use Rattle.question.specs.declared.refusal.Refusal.{Refusal}
use Rattle.question.specs.RefusalNumbers.{with_number}
use Rattle.verdict.specs.declared.Verdict.{Verdict}

-- ---- a record in its place
module _ (sheet : List ℕ) (earlier : List Record) (given : Record) (later : List Record) (here : records sheet ≡ earlier ++ (given ∷ later)) where
  abbrev st : State
  st = state_after_all starting_state earlier

  abbrev Place : Result Verdict Refusal → Type 0
  Place = AnsweredBy (sheet_answer sheet) earlier given later

  placed : (r : Result Verdict Refusal) → reply_to st given ≡ Some r → Place r
  placed r e =
      each_record sheet earlier given later here
      ∙ ap (λ (reply : Option (Result Verdict Refusal)). answers_from starting_state earlier ++ (reply_bytes reply ++ answers_from (state_after st given) later)) e
      ∙ ap (λ (bytes : List ℕ). answers_from starting_state earlier ++ (bytes ++ answers_from (state_after st given) later)) (answer_bytes r)

  settings_refused : (within : Bool) (why : Refusal) → within ≡ false → settings_reply within why ≡ Some (Err why)
  settings_refused within why e = ap (λ (b : Bool). settings_reply b why) e

  reply_of : {r : Record} → given ≡ r → reply_to st given ≡ reply_to st r
  reply_of e = ap (reply_to st) e

  encounter_refused : (x : Encounter) → given ≡ Record.Encounter x → encounter_within x ≡ false → Place (Err Refusal.EncounterOutside)
  unfolding reply_to
  encounter_refused x g e = placed (Err Refusal.EncounterOutside) (reply_of g ∙ settings_refused (encounter_within x) Refusal.EncounterOutside e)

  puck_refused : (p k : ℤ) → given ≡ Record.Puck p k → puck_within (with_puck st.settings p k) ≡ false → Place (Err Refusal.PuckOutside)
  unfolding reply_to
  puck_refused p k g e = placed (Err Refusal.PuckOutside) (reply_of g ∙ settings_refused (puck_within (with_puck st.settings p k)) Refusal.PuckOutside e)

  acceleration_refused : (e : ℤ) → given ≡ Record.DelayAcceleration e → delay_acceleration_within (with_delay_acceleration st.settings e) ≡ false → Place (Err Refusal.DelayAccelerationOutside)
  unfolding reply_to
  acceleration_refused a g e = placed (Err Refusal.DelayAccelerationOutside) (reply_of g ∙ settings_refused (delay_acceleration_within (with_delay_acceleration st.settings a)) Refusal.DelayAccelerationOutside e)

  -- ---- questions
  free_right : (met : Option Encounter) (z : Question) (x : Encounter) → met ≡ Some x → RightlyAnswered x st.settings z (free_answer met st.settings z)
  unfolding free_answer
  free_right met z x e = subst (λ (m : Option Encounter). RightlyAnswered x st.settings z (free_answer m st.settings z)) (sym e) (answer_right x st.settings z)

  free_answered : (z : Question) → given ≡ Record.Free z → (r : Result Verdict Refusal) × FreeAnswered (sheet_answer sheet) earlier given later z r
  unfolding reply_to
  free_answered z g =
      let r = free_answer st.encounter st.settings z in (
        r,
        record {
          placed = placed r (reply_of g);
          order = free_order st (stored_within earlier) z;
          right = free_right st.encounter z;
        },
      )

  module _ (code : ℕ) (limit : ℤ) where
    abbrev Coded : Option Encounter → Result Verdict Refusal
    Coded met = coded_answer met st.settings code limit

    asked_is : (met : Option Encounter) (x : Encounter) (z : Question) → met ≡ Some x → coded_question code x.speed limit ≡ Ok z → Coded met ≡ answer x st.settings z
    unfolding coded_answer
    asked_is met x z e q = ap Coded e ∙ ap (asked_answer x st.settings) q

    coded_right : (x : Encounter) (z : Question) → st.encounter ≡ Some x → coded_question code x.speed limit ≡ Ok z → RightlyAnswered x st.settings z (Coded st.encounter)
    coded_right x z e q = subst (RightlyAnswered x st.settings z) (sym (asked_is st.encounter x z e q)) (answer_right x st.settings z)

    encounter_within_lem : (met : Option Encounter) (x : Encounter) → met ≡ Some x → states.StoredEncounterWithin met → T (encounter_within x)
    encounter_within_lem met x e w = subst states.StoredEncounterWithin e w

    coded_region : (x : Encounter) → st.encounter ≡ Some x → CodeWithin 1 16 code → ¬ NeverIssued code x.speed → limit ≡ no_limit → CodeDemand2 x st.settings code (Coded st.encounter)
    coded_region x e range may no-limit =
        let w = stored_within earlier in
        let y = st.settings in
        let clear = sixteen_codes x y (is_true (encounter_within x) (encounter_within_lem st.encounter x e w.encounter)) (is_true (puck_within y) w.puck) (is_true (delay_acceleration_within y) w.acceleration) code range (issued code x.speed may) in
        record {
          line = clear.line;
          in_table_1 = clear.in_table_1;
          figure_5 = clear.clear.by_result (Coded st.encounter)
              (ap answer_record (asked_is st.encounter x clear.question e (ap (coded_question code x.speed) no-limit ∙ clear.asked)));
        }

  coded_answered : (code : ℕ) (limit : ℤ) → code < 256 → given ≡ Record.Coded code limit → (r : Result Verdict Refusal) × CodedAnswered (sheet_answer sheet) earlier given later code limit r
  unfolding reply_to
  coded_answered code limit byte g =
      let r = coded_answer st.encounter st.settings code limit in (
        r,
        record {
          placed = placed r (reply_of g);
          order = coded_order st (stored_within earlier) code limit byte;
          right = coded_right code limit;
          maintain = λ x e. maintain_answered st (stored_within earlier) x e code limit byte;
          region = coded_region code limit;
        },
      )

pub each : (sheet : List ℕ) → EachRecord sheet (sheet_answer sheet)
each sheet earlier given later here = record {
  encounter = encounter_refused sheet earlier given later here;
  puck = puck_refused sheet earlier given later here;
  acceleration = acceleration_refused sheet earlier given later here;
  free = free_answered sheet earlier given later here;
  coded = coded_answered sheet earlier given later here;
}

-- ---- the whole sheet
-- the area by the outcome's number: none of a refusal changes it, and an answer of so many bytes is written
area_kept : (o : Result ℕ Refusal) (answered area : List ℕ) (number : ℕ) → with_number o ≡ Err number → area_for o answered area ≡ area
area_kept (Ok size) answered area number e = cc
area_kept (Err why) answered area number e = refl

area_written : (o : Result ℕ Refusal) (answered area : List ℕ) (size : ℕ) → with_number o ≡ Ok size → area_for o answered area ≡ answered ++ drop size area
area_written (Ok put) answered area size e = let same : put ≡ size = cc in ap (λ (k : ℕ). answered ++ drop k area) same
area_written (Err why) answered area size e = cc

abbrev numbered : Result ℕ Refusal → Result ℕ ℕ
numbered o = with_number o

pub sheet_answered : (sheet area : List ℕ) → SheetAnswered sheet area (area_after sheet area) (with_number (outcome sheet (length area)))
sheet_answered sheet area = record {
  too_long = λ h. ap numbered (refused_in_any_area sheet Refusal.SheetTooLong (too_long sheet h) (length area));
  faulty = λ h why e. ap numbered (refused_in_any_area sheet why (cond-true _ _ _ (le-leb (length sheet) longest_sheet h) ∙ e) (length area));
  too_short = λ e h. ap numbered (too_short sheet (length area) e h);
  accepted = λ e h. ap numbered (long_enough sheet (length area) e h);
  unchanged = area_kept (outcome sheet (length area)) (sheet_answer sheet) area;
  written = area_written (outcome sheet (length area)) (sheet_answer sheet) area;
  each = each sheet;
}

-- whatever has the outcome's number, and the area that the entry promises
pub answered_by : (sheet before after : List ℕ) (o : Result ℕ ℕ) → o ≡ with_number (outcome sheet (length before)) → after ≡ area_after sheet before → SheetAnswered sheet before after o
answered_by sheet before after o e f =
    subst (λ (a : List ℕ). SheetAnswered sheet before a o) (sym f)
    (subst (SheetAnswered sheet before (area_after sheet before)) (sym e) (sheet_answered sheet before))

pub rightly : (sheet before after : List ℕ) (o : Result ℕ Refusal) → (o ≡ outcome sheet (length before)) × (after ≡ area_after sheet before) → SheetAnswered sheet before after (with_number o)
rightly sheet before after o e = answered_by sheet before after (with_number o) (ap numbered e.0) e.1
