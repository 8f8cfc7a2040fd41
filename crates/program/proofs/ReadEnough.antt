-- Reading one byte more than the longest sheet is enough: a longer input is refused with 10 by what was read of it, and a shorter one is read whole.
-- Assumes nothing.
use Rattle.std.specs.Prelude.{Err, Result, ⊤}
use mathlib.Core.Path.{◌≡◌, sym, ap, ◌∙◌}
use mathlib.Core.List.{List, [], ◌∷◌}
use Prim.Native.Nat.{ℕ, ◌<◌}
use native.Mathlib.Decide.{dec_lt}
use native.Mathlib.Omega.{arith}
use borrow.Author.Tests.{lt-leb}
use lib.ListN.{length}
use lib.Seq.{length-take-le, take_all}
use Rattle.std.proofs.lemmas.Bool.{cond-false}
use Rattle.record.specs.SheetCheck.{longest_sheet, sheet_check}
use Rattle.sheet.specs.WholeSheet.{sheet_answer, outcome_for}
use Rattle.program.specs.Output.{answer_room, read_room, read_of, written_for, program_output}
use Rattle.question.specs.RefusalNumbers.{refusal_number}
use Rattle.question.specs.declared.refusal.Refusal.{Refusal}

pub too_long : (s : List ℕ) → longest_sheet < length s → sheet_check s ≡ Err Refusal.SheetTooLong
too_long s h = cond-false _ _ _ (lt-leb (length s) longest_sheet h)

pub refused_output : (s : List ℕ) (why : Refusal) → sheet_check s ≡ Err why → program_output s ≡ 69 ∷ refusal_number why ∷ []
unfolding program_output
refused_output s why e = ap (λ (k : Result ⊤ Refusal). written_for (outcome_for k (length (sheet_answer s)) answer_room) (sheet_answer s)) e

pub reads_enough : (input : List ℕ) → program_output (read_of input) ≡ program_output input
reads_enough input = go (dec_lt longest_sheet (length input))
  where
    go : Dec (longest_sheet < length input) → program_output (read_of input) ≡ program_output input
    go (yes h) =
        refused_output (read_of input) Refusal.SheetTooLong (too_long (read_of input) (omega (arith, length-take-le read_room input h)))
        ∙ sym (refused_output input Refusal.SheetTooLong (too_long input h))
    go (no h) = ap program_output (take_all read_room input (omega arith))
