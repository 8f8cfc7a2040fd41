-- A sheet's answer is its replies' bytes, one after the other. Assumes nothing.
use Rattle.std.proofs.Common.{◌≡◌, sym, ℕ, ap, ◌∙◌, refl, List, [], ◌∷◌, ◌++◌, length}
use Rattle.std.specs.List.{flat_map, sum_by}
use Rattle.std.proofs.lemmas.List.Concat.{length-flat_map}
use Rattle.record.specs.declared.Record.{Record}
use Rattle.record.specs.Records.{records}
use Rattle.reply.specs.AnswerBytes.{reply_bytes}
use Rattle.answering.specs.declared.State.{State}
use Rattle.answering.specs.States.{starting_state, state_after}
use Rattle.answering.specs.Replies.{reply_to}
use Rattle.sheet.specs.WholeSheet.{answers_from, sheet_answer}
use Rattle.sheet.specs.inner.Replies.{replies_from, sheet_replies}

answers_are : (st : State) (rs : List Record) → answers_from st rs ≡ flat_map reply_bytes (replies_from st rs)
unfolding answers_from replies_from
answers_are st [] = refl
answers_are st (r ∷ rs) = ap (λ l. reply_bytes (reply_to st r) ++ l) (answers_are (state_after st r) rs)

pub answer_is : (s : List ℕ) → flat_map reply_bytes (sheet_replies s) ≡ sheet_answer s
answer_is s = sym (answers_are starting_state (records s))

pub answer_length_is : (s : List ℕ) → sum_by (λ reply. length (reply_bytes reply)) (sheet_replies s) ≡ length (sheet_answer s)
answer_length_is s = sym (length-flat_map reply_bytes (sheet_replies s)) ∙ ap length (answer_is s)
