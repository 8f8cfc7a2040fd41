-- The program: what it reads, and what it writes for that. "The program reads a sheet from standard input and writes the answer records, with an answer area
-- of 65,536 bytes, more than any sheet can fill; for a refused sheet it writes kind 69 and the number in one byte."
use Rattle.std.specs.Prelude.{List, ◌++◌, ℕ, suc, length, take, drop, replicate, Err, Ok, Result}
use Rattle.record.specs.SheetCheck.{longest_sheet}
use Rattle.reply.specs.AnswerBytes.{record_bytes}
use Rattle.sheet.specs.WholeSheet.{sheet_answer, outcome, outcome_record}
use Rattle.question.specs.declared.refusal.Refusal.{Refusal}

-- the answer area's bytes
abbrev pub answer_room : ℕ
answer_room = 65536

-- Of standard input one byte more is read than the longest sheet has, so that a longer one is seen.
abbrev pub read_room : ℕ
read_room = suc longest_sheet

-- what is read of an input
abbrev pub read_of : List ℕ → List ℕ
read_of input = take read_room input

-- the answer records, or the refusal's record
abbrev pub written_for : Result ℕ Refusal → List ℕ → List ℕ
written_for (Ok length) answer = answer
written_for (Err why) answer = record_bytes (outcome_record (Err why))

-- what the program writes for what it read
unfoldable pub program_output : List ℕ → List ℕ
program_output sheet = written_for (outcome sheet answer_room) (sheet_answer sheet)

-- the answer area after that: the output, then the zeros that it began with
abbrev pub area_with : List ℕ → List ℕ
area_with output = output ++ drop (length output) (replicate answer_room 0)
