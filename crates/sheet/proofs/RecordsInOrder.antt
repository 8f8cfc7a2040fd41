-- The answer of a sheet is the concatenation of its records' answers, each in the state that the records before it left. Assumes nothing.
use mathlib.Core.Path.{◌≡◌, refl, sym, ap, ◌∙◌}
use mathlib.Core.List.{List, [], ◌∷◌, ◌++◌, append_assoc}
use Prim.Native.Nat.{ℕ}
use Rattle.record.specs.declared.Record.{Record}
use Rattle.record.specs.Records.{records}
use Rattle.reply.specs.AnswerBytes.{reply_bytes}
use Rattle.answering.specs.declared.State.{State}
use Rattle.answering.specs.States.{starting_state, state_after, state_after_all}
use Rattle.answering.specs.Replies.{reply_to}
use Rattle.sheet.specs.WholeSheet.{answers_from, sheet_answer}

pub answers_append : (st : State) (xs ys : List Record) → answers_from st (xs ++ ys) ≡ answers_from st xs ++ answers_from (state_after_all st xs) ys
unfolding answers_from state_after_all
answers_append st [] ys = refl
answers_append st (x ∷ xs) ys =
    ap (λ (l : List ℕ). reply_bytes (reply_to st x) ++ l) (answers_append (state_after st x) xs ys)
    ∙ sym (append_assoc (reply_bytes (reply_to st x)) (answers_from (state_after st x) xs) (answers_from (state_after_all (state_after st x) xs) ys))

-- every record of a sheet, not just the first: its reply stands after the answers of those before it
pub each_record : (s : List ℕ) (earlier : List Record) (r : Record) (later : List Record) → records s ≡ earlier ++ (r ∷ later)
    → let st = state_after_all starting_state earlier in
    sheet_answer s ≡ answers_from starting_state earlier ++ (reply_bytes (reply_to st r) ++ answers_from (state_after st r) later)
unfolding answers_from
each_record s earlier r later e = ap (answers_from starting_state) e ∙ answers_append starting_state earlier (r ∷ later)
