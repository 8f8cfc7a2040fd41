-- What the demands ask of the program: "The program reads a sheet from standard input and writes the answer records, with an answer area of 65,536 bytes, more than
-- any sheet can fill; for a refused sheet it writes kind 69 and the number in one byte."
use Rattle.std.specs.Prelude.{◌≡◌, List, [], ◌∷◌, ℕ, Err, Ok}
use Rattle.record.specs.SheetCheck.{sheet_check}
use Rattle.sheet.specs.WholeSheet.{sheet_answer}
use Rattle.program.specs.Output.{read_of, program_output}
use Rattle.program.proofs.ReadEnough as read
use Rattle.demands.specs.Sheets.{EachRecord}
use Rattle.question.specs.RefusalNumbers.{refusal_number}
use Rattle.question.specs.declared.refusal.Refusal.{Refusal}

-- what is written for what was read
pub record Written (sheet output : List ℕ) : Type 0 where
  pub refused : (why : Refusal) → sheet_check sheet ≡ Err why → output ≡ 69 ∷ refusal_number why ∷ []
  pub answered : sheet_check sheet ≡ Ok tt → (output ≡ sheet_answer sheet) × EachRecord sheet output

-- "The program reads a sheet from standard input": of a longer input than 8,193 bytes these are enough
pub reads_enough : (input : List ℕ) → program_output (read_of input) ≡ program_output input
reads_enough = read.reads_enough
