-- How long an answer can be: a reply has at most 13 bytes for 4 of its record, so the answer of an accepted sheet has at most 26,624. Assumes nothing.
use Rattle.std.specs.Prelude.{Err, None, Ok, Option, Result, Some, ⊤, is_some}
use mathlib.Core.Path.{◌≡◌, refl}
use mathlib.Core.Bool.{Bool, true, false, cond}
use mathlib.Core.List.{List, [], ◌∷◌}
use Prim.Native.Nat.{ℕ, zero, suc, ◌+◌, ◌*◌, ◌≤◌}
use native.Mathlib.Omega.{arith}
use lib.IntN.{ℤ, pos}
use lib.ListN.{length, length-append}
use Rattle.advisory.specs.Advised.{advised_of}
use Rattle.question.specs.declared.Encounter.{Encounter}
use Rattle.question.specs.declared.Settings.{Settings}
use Rattle.question.specs.declared.Question.{Question}
use Rattle.verdict.specs.declared.Verdict.{Verdict}
use Rattle.verdict.specs.declared.Verdict.TheVariants.{Clear, Conflict, Conflicts}
use Rattle.question.specs.Refusals.{encounter_within, puck_within, delay_acceleration_within, refusal, two_sided}
use Rattle.sensed.specs.Sensed.{sensed_question}
use Rattle.coded.specs.Coded.{asked, instructed, maintainable, coded_question}
use Rattle.verdict.specs.Verdicts.{verdict}
use Rattle.judge.specs.Answers.{checked_answer, answer}
use Rattle.judge.specs.Demand3.{RightOneSided}
use Rattle.judge.proofs.Demand3.{one_sided_lem}
use Rattle.record.specs.declared.Kind.{Kind}
use Rattle.record.specs.Kinds.{kind_of, body_length, body_after}
use Rattle.record.specs.Numbers.{byte_at, short_at, number_at}
use Rattle.record.specs.Records.{encounter_in, question_in, record_of, record_before, records_after}
use Rattle.record.specs.SheetCheck.{fault_after, sheet_check}
use Rattle.record.proofs.Scan.{accepted_sheet}
use Rattle.reply.specs.AnswerBytes.{reply_bytes}
use Rattle.answering.specs.declared.State.{State}
use Rattle.answering.specs.States.{starting_state, with_puck, with_delay_acceleration, state_after}
use Rattle.answering.specs.Replies.{settings_reply, asked_answer, coded_answer, free_answer, reply_to}
use Rattle.sheet.specs.WholeSheet.{answers_from, sheet_answer}
use Rattle.advisory.specs.declared.CodeError.{CodeError}
use Rattle.advisory.specs.declared.Instruction.{Instruction}
use Rattle.question.specs.declared.refusal.Refusal.{Refusal}

abbrev size : Result Verdict Refusal → ℕ
size a = length (reply_bytes (Some a))

-- ---- any answer has at most 25 bytes
answer_size : (a : Result Verdict Refusal) → size a ≤ 25
answer_size (Ok (Clear sides)) = omega arith
answer_size (Ok (Conflict t)) = omega arith
answer_size (Ok (Conflicts t u)) = omega arith
answer_size (Err n) = omega arith

-- ---- a question by code is one-sided, and so its answer has one time at most: 13 bytes
module _ (x : Encounter) (y : Settings) (z : Question) where
  verdict_size : (v : Verdict) → RightOneSided (sensed_question x y z) v → size (Ok v) ≤ 13
  verdict_size (Clear sides) right = omega arith
  verdict_size (Conflict t) right = omega arith
  verdict_size (Conflicts t u) right = absurd right

  one_sided_size : two_sided z ≡ false → size (answer x y z) ≤ 13
  unfolding answer
  one_sided_size e = go (refusal x y z) refl
    where
      go : (k : Result ⊤ Refusal) → refusal x y z ≡ k → size (checked_answer k (verdict z (sensed_question x y z))) ≤ 13
      go (Ok _) p = verdict_size (verdict z (sensed_question x y z)) (one_sided_lem x y z p e)
      go (Err n) p = omega arith

asked_size : (x : Encounter) (y : Settings) (code : ℕ) (a : Result Instruction CodeError) (v limit : ℤ) → size (asked_answer x y (asked code a v limit)) ≤ 13
asked_size x y code (Ok i) v limit = go (maintainable code v)
  where
    go : (may : Bool) → size (asked_answer x y (cond may (Ok (instructed i v limit)) (Err Refusal.NeverIssued))) ≤ 13
    go true = one_sided_size x y (instructed i v limit) refl
    go false = omega arith
asked_size x y code (Err CodeError.NotJudged) v limit = omega arith
asked_size x y code (Err CodeError.Unknown) v limit = omega arith

coded_size : (met : Option Encounter) (y : Settings) (code : ℕ) (limit : ℤ) → size (coded_answer met y code limit) ≤ 13
unfolding coded_answer coded_question
coded_size None y code limit = omega arith
coded_size (Some x) y code limit = asked_size x y code (advised_of code) x.speed limit

settings_size : (b : Bool) (n : Refusal) → length (reply_bytes (settings_reply b n)) ≤ 2
settings_size true n = omega arith
settings_size false n = omega arith

-- ---- a record's reply, and the bytes of the record
reply_size : (st : State) (kind : Kind) (body : List ℕ) → 4 * length (reply_bytes (reply_to st (record_of kind body))) ≤ 13 + 13 * body_length kind
unfolding reply_to
reply_size st Kind.Encounter body = omega (arith, settings_size (encounter_within (encounter_in body)) Refusal.EncounterOutside)
reply_size st Kind.Puck body = omega (arith, settings_size (puck_within (with_puck st.settings (number_at body 0) (number_at body 4))) Refusal.PuckOutside)
reply_size st Kind.DelayAcceleration body = omega (arith, settings_size (delay_acceleration_within (with_delay_acceleration st.settings (number_at body 0))) Refusal.DelayAccelerationOutside)
reply_size st Kind.Coded body = omega (arith, coded_size st.encounter st.settings (byte_at body 0) (pos (short_at body 1)))
reply_size st Kind.Free body = omega (arith, answer_size (free_answer st.encounter st.settings (question_in body)))

-- ---- all the records after `passed` bytes of a body
answers_size : (st : State) (passed : ℕ) (l : List ℕ) → fault_after passed l ≡ Ok tt → 4 * length (answers_from st (records_after passed l)) + 13 * passed ≤ 13 * length l
unfolding fault_after records_after answers_from
answers_size st zero [] e = omega arith
answers_size st (suc n) [] e = absurd (cc)
answers_size st (suc n) (b ∷ l) e = omega (arith, answers_size st n l e)
answers_size st zero (b ∷ l) e = go (kind_of b) (λ st' n. answers_size st' n l) e
  where
    go : (k : Option Kind) → ((st' : State) (n : ℕ) → fault_after n l ≡ Ok tt → 4 * length (answers_from st' (records_after n l)) + 13 * n ≤ 13 * length l)
        → cond (is_some k) (fault_after (body_after k) l) (Err Refusal.KindUnknown) ≡ Ok tt
        → 4 * length (answers_from st (record_before k l (records_after (body_after k) l))) + 13 * 0 ≤ 13 * suc (length l)
    go None f h = absurd (cc)
    go (Some kind) f h = simp length-append (omega (arith, reply_size st kind l, f (state_after st (record_of kind l)) (body_length kind) h))

-- the answer of an accepted sheet is shorter than the program's area of 65,536 bytes
pub sheet_answer_short : (s : List ℕ) → sheet_check s ≡ Ok tt → length (sheet_answer s) ≤ 26624
sheet_answer_short s e = let a = accepted_sheet s e in omega (arith, answers_size starting_state 0 s a.1, a.0)
