-- An outcome's number and values determine it, and the length in an accepted outcome is that of the answer, which the area holds. Assumes nothing.
use Rattle.std.specs.Prelude.{Err, Ok, Result, ⊤}
use mathlib.Core.Path.{◌≡◌, refl, sym, ap}
use mathlib.Core.Bool.{Bool, true, false, cond}
use mathlib.Core.List.{List}
use Prim.Native.Nat.{ℕ, ◌≤◌}
use native.Mathlib.Omega.{arith}
use borrow.Author.Tests.{leb-true}
use lib.Dec.{leb}
use lib.ListN.{length, get_or}
use Rattle.judge.specs.Answers.{AnswerRecord}
use Rattle.record.specs.SheetCheck.{sheet_check}
use Rattle.sheet.specs.WholeSheet.{sheet_answer, outcome_for, outcome, outcome_record}
use Rattle.question.proofs.RefusalNumbers.{number_determines}
use Rattle.question.specs.declared.refusal.Refusal.{Refusal}

abbrev kind_in : AnswerRecord → ℕ
kind_in r = r.kind

abbrev first_value : AnswerRecord → ℕ
first_value r = get_or r.values 0 0

pub outcome_determines : (o p : Result ℕ Refusal) → outcome_record o ≡ outcome_record p → o ≡ p
outcome_determines (Ok m) (Ok n) e = ap Ok (ap first_value e)
outcome_determines (Err m) (Err n) e = ap Err (number_determines m n (ap first_value e))
outcome_determines (Ok m) (Err n) e = absurd (omega (arith, ap kind_in e))
outcome_determines (Err m) (Ok n) e = absurd (omega (arith, ap kind_in e))

accepted_for : (k : Result ⊤ Refusal) (needed room written : ℕ) → outcome_for k needed room ≡ Ok written → (written ≡ needed) × (written ≤ room)
accepted_for (Err n) needed room written e = absurd (cc)
accepted_for (Ok _) needed room written e = go (leb needed room) refl e
  where
    go : (b : Bool) → leb needed room ≡ b → cond b (Ok needed) (Err Refusal.AreaTooShort) ≡ Ok written → (written ≡ needed) × (written ≤ room)
    go true p h = let w : needed ≡ written = cc in (sym w, omega (arith, leb-true needed room p, w))
    go false p h = absurd (cc)

pub accepted_length : (s : List ℕ) (room written : ℕ) → outcome s room ≡ Ok written → (written ≡ length (sheet_answer s)) × (written ≤ room)
accepted_length s room written e = accepted_for (sheet_check s) (length (sheet_answer s)) room written e
