-- What the program writes and leaves in its area, by the outcome of the sheet. Assumes nothing.
use Rattle.std.specs.Prelude.{Err, Ok, Result}
use mathlib.Core.Path.{◌≡◌, sym, ap, ◌∙◌}
use mathlib.Core.List.{List, [], ◌∷◌, ◌++◌}
use Prim.Native.Nat.{ℕ, ◌≤◌}
use native.Mathlib.Omega.{arith}
use lib.ListN.{length, drop, replicate, set, length-append, length-replicate}
use Rattle.reply.proofs.Writing.{two_stores, stored_first}
use Rattle.sheet.specs.WholeSheet.{sheet_answer, outcome, area_for, area_after}
use Rattle.sheet.proofs.OutcomeRecords.{accepted_length}
use Rattle.program.specs.Output.{answer_room, written_for, program_output, area_with}
use Rattle.question.specs.RefusalNumbers.{refusal_number}
use Rattle.question.specs.declared.refusal.Refusal.{Refusal}

-- the area that the program lends
abbrev pub blank : List ℕ
blank = replicate answer_room 0

module _ (s : List ℕ) (o : Result ℕ Refusal) (answered : o ≡ outcome s (length blank)) where
  output_is : program_output s ≡ written_for o (sheet_answer s)
  unfolding program_output
  output_is = ap (λ (p : Result ℕ Refusal). written_for p (sheet_answer s)) (ap (outcome s) (sym (length-replicate {A = ℕ} answer_room 0)) ∙ sym answered)

  area_is : area_after s blank ≡ area_for o (sheet_answer s) blank
  area_is = ap (λ (p : Result ℕ Refusal). area_for p (sheet_answer s) blank) (sym answered)

-- an accepted sheet: its answer, and the rest of the area
pub accepted_output : (s : List ℕ) (n : ℕ) → Ok n ≡ outcome s (length blank) → (n ≡ length (program_output s)) × (area_after s blank ≡ area_with (program_output s))
accepted_output s n e =
    let size = (accepted_length s (length blank) n (sym e)).0 in
    let output = output_is s (Ok n) e in
    (size ∙ ap length (sym output), area_is s (Ok n) e ∙ ap (λ (k : ℕ). sheet_answer s ++ drop k blank) size ∙ ap area_with (sym output))

-- a refused one: the area as it was, into which kind 69 and the number are stored
pub refused_output : (s area : List ℕ) (byte : ℕ) (why : Refusal) → Err why ≡ outcome s (length blank) → area ≡ area_after s blank → byte ≡ refusal_number why
    → (2 ≡ length (program_output s)) × (set (set area 0 69) 1 byte ≡ area_with (program_output s))
refused_output s area byte why e same number =
    let output = output_is s (Err why) e in
    let written : 69 ∷ byte ∷ [] ≡ program_output s = ap (λ (n : ℕ). 69 ∷ n ∷ []) number ∙ sym output in (
      ap length (sym output),
      ap (λ (l : List ℕ). set (set l 0 69) 1 byte) (same ∙ area_is s (Err why) e)
          ∙ two_stores blank 0 69 byte
          ∙ stored_first (69 ∷ byte ∷ []) blank (omega (arith, length-replicate {A = ℕ} answer_room 0))
          ∙ ap area_with written,
    )

-- the bytes to write are within the area
pub output_fits : (s : List ℕ) {n : ℕ} {area : List ℕ} → (n ≡ length (program_output s)) × (area ≡ area_with (program_output s)) → n ≤ length area
output_fits s e = omega (arith, e.0, ap length e.1, length-append (program_output s) (drop (length (program_output s)) blank))
