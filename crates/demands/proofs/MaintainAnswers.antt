-- An answer to a question by code is 17 exactly where the code is never issued, and else the earlier rule's: from the order of refusals and the law of coded questions. Assumes nothing.
use Rattle.std.specs.Prelude.{Err, Option, Result, Some}
use mathlib.Core.Path.{◌≡◌, refl, sym, ap, ◌∙◌}
use mathlib.Core.Bool.{Bool, true, false, ◌||◌}
use mathlib.Core.List.{[], ◌∷◌}
use Prim.Native.Nat.{ℕ, ◌<◌}
use lib.IntN.{ℤ}
use Rattle.question.specs.declared.Encounter.{Encounter}
use Rattle.limits.specs.Limits.{limit_within, no_limit}
use Rattle.question.specs.Refusals.{is_number, check, first_refusal}
use Rattle.coded.specs.Coded.{maintainable, coded_question}
use Rattle.coded.proofs.EarlierCodes.{never_issued, only_17}
use Rattle.answering.specs.declared.State.{State}
use Rattle.answering.specs.States.{StoredWithin}
use Rattle.answering.specs.Replies.{asked_answer, coded_answer, code_from, coded_checks, refusal_in}
use Rattle.answering.proofs.RefusalOrder.{coded_order}
use Rattle.demands.specs.Maintain.{NeverIssued, MaintainAnswered}
use Rattle.question.specs.declared.refusal.Refusal.{Refusal}
use Rattle.question.specs.declared.Question.{Question}

-- 17 is its own test's number
seventeen : (a b c d : Bool) → first_refusal (check Refusal.CodeUnknown a ∷ check Refusal.CodeNotJudged b ∷ check Refusal.NeverIssued c ∷ check Refusal.TimesOutside d ∷ []) ≡ Err Refusal.NeverIssued → c ≡ false
seventeen false b c d e = cc
seventeen true false c d e = cc
seventeen true true false d e = refl
seventeen true true true false e = cc
seventeen true true true true e = cc

module _ (st : State) (w : StoredWithin st) (x : Encounter) (met : st.encounter ≡ Some x) (code : ℕ) (limit : ℤ) (byte : code < 256) where
  abbrev found : Result Question Refusal
  found = coded_question code x.speed limit

  there : coded_answer st.encounter st.settings code limit ≡ asked_answer x st.settings found
  unfolding coded_answer
  there = ap (λ (m : Option Encounter). coded_answer m st.settings code limit) met

  -- the order of refusals, with the encounter there
  first : refusal_in (asked_answer x st.settings found) ≡ first_refusal (coded_checks (Some x) code limit)
  first = sym (ap refusal_in there) ∙ coded_order st w code limit byte ∙ ap (λ (m : Option Encounter). first_refusal (coded_checks m code limit)) met

  by_test : refusal_in (asked_answer x st.settings found) ≡ Err Refusal.NeverIssued → NeverIssued code x.speed
  by_test e =
      (never_issued code x.speed).0
      (seventeen (code_from 1 18 code) (code_from 1 16 code) (maintainable code x.speed) (limit_within limit || is_number no_limit limit) (sym first ∙ e))

  answers_17 : found ≡ Err Refusal.NeverIssued → refusal_in (asked_answer x st.settings found) ≡ Err Refusal.NeverIssued
  answers_17 e = ap (λ (q : Result Question Refusal). refusal_in (asked_answer x st.settings q)) e

  pub maintain_answered : MaintainAnswered x st.settings code limit (coded_answer st.encounter st.settings code limit)
  maintain_answered =
      let law = only_17 code x.speed limit in
      let is = ap refusal_in there in
      record {
        refused = (λ e. by_test (sym is ∙ e), λ n. is ∙ answers_17 (law.refused.1 n));
        otherwise = λ other. there ∙ ap (asked_answer x st.settings) (law.otherwise (λ e. other (is ∙ answers_17 e)));
      }
