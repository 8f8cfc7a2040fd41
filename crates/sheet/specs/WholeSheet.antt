-- A whole sheet: its answer, its outcome, and every byte of the answer area afterwards.
use Rattle.std.specs.Prelude.{cond, List, [], ◌∷◌, ◌++◌, ℕ, leb, length, drop, Err, Ok, Result, ⊤}
use Rattle.judge.specs.Answers.{AnswerRecord, answers}
use Rattle.record.specs.declared.Record.{Record}
use Rattle.record.specs.Records.{records}
use Rattle.record.specs.SheetCheck.{sheet_check}
use Rattle.reply.specs.AnswerBytes.{reply_bytes}
use Rattle.answering.specs.declared.State.{State}
use Rattle.answering.specs.States.{starting_state, state_after}
use Rattle.answering.specs.Replies.{reply_to}
use Rattle.question.specs.RefusalNumbers.{refusal_number}
use Rattle.question.specs.declared.refusal.Refusal.{Refusal}

-- the answer to records in order, each in the state that those before it left
unfoldable pub answers_from : State → List Record → List ℕ
answers_from state [] = []
answers_from state (first ∷ rest) = reply_bytes (reply_to state first) ++ answers_from (state_after state first) rest

-- the answer to a sheet's records
abbrev pub sheet_answer : List ℕ → List ℕ
sheet_answer sheet = answers_from starting_state (records sheet)

-- "13, the answer area is shorter than the whole answer, tested after 10 to 12"
abbrev pub outcome_for : Result ⊤ Refusal → ℕ → ℕ → Result ℕ Refusal
outcome_for (Err why) needed room = Err why
outcome_for (Ok _) needed room = cond (leb needed room) (Ok needed) (Err Refusal.AreaTooShort)

-- the outcome for a sheet and an area of `room` bytes
abbrev pub outcome : List ℕ → ℕ → Result ℕ Refusal
outcome sheet room = outcome_for (sheet_check sheet) (length (sheet_answer sheet)) room

-- refused: "no byte changed"; else the answer, and "Bytes past the answer keep their values."
abbrev pub area_for : Result ℕ Refusal → List ℕ → List ℕ → List ℕ
area_for (Err why) answer area = area
area_for (Ok written) answer area = answer ++ drop written area

-- the whole area afterwards, for every sheet and every area
abbrev pub area_after : List ℕ → List ℕ → List ℕ
area_after sheet area = area_for (outcome sheet (length area)) (sheet_answer sheet) area

-- The number and values of each outcome: "for a refused sheet it writes kind 69 and the number"; an accepted sheet has no record of its own (0), and its answer's length.
abbrev pub outcome_record : Result ℕ Refusal → AnswerRecord
outcome_record (Ok written) = answers 0 (written ∷ [])
outcome_record (Err why) = answers 69 (refusal_number why ∷ [])
