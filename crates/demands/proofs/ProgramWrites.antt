-- The demands of what the program writes: the answer of an accepted sheet, for which its area is ample, or the refusal's record. Assumes nothing.
use Rattle.std.specs.Prelude.{Ok, Result}
use mathlib.Core.Path.{◌≡◌, sym, ap, subst, ◌∙◌}
use mathlib.Core.List.{List}
use Prim.Native.Nat.{ℕ}
use lib.ListN.{length, take, drop, replicate}
use lib.Seq.{take-append_seam}
use Rattle.record.specs.SheetCheck.{sheet_check}
use Rattle.sheet.specs.WholeSheet.{sheet_answer}
use Rattle.sheet.proofs.WholeSheetRefusals.{ample_area}
use Rattle.program.specs.Output.{answer_room, written_for, program_output, area_with}
use Rattle.program.proofs.ReadEnough.{refused_output}
use Rattle.demands.specs.Sheets.{EachRecord}
use Rattle.demands.specs.Program.{Written}
use Rattle.demands.proofs.SheetAnswers.{each}
use Rattle.question.specs.declared.refusal.Refusal.{Refusal}

answered_output : (sheet : List ℕ) → sheet_check sheet ≡ Ok tt → program_output sheet ≡ sheet_answer sheet
unfolding program_output
answered_output sheet e = ap (λ (o : Result ℕ Refusal). written_for o (sheet_answer sheet)) (ample_area sheet e)

written : (sheet : List ℕ) → Written sheet (program_output sheet)
written sheet = record {
  refused = refused_output sheet;
  answered = λ e. let output = answered_output sheet e in (output, subst (EachRecord sheet) (sym output) (each sheet));
}

pub written_by : (sheet : List ℕ) (n : ℕ) (area : List ℕ) → (n ≡ length (program_output sheet)) × (area ≡ area_with (program_output sheet)) → Written sheet (take n area)
written_by sheet n area e =
    let output = program_output sheet in
    let taken = ap (λ (k : ℕ). take k area) e.0 ∙ ap (take (length output)) e.1 ∙ take-append_seam output (drop (length output) (replicate answer_room 0)) in
    subst (Written sheet) (sym taken) (written sheet)
