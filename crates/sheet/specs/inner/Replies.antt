-- Definitions that only inner contracts use; an instructor need not read them.
-- The replies that a walk over a sheet's records gives, one after the other.
use Rattle.std.specs.Prelude.{List, [], ◌∷◌, ℕ, Option, Result}
use Rattle.question.specs.declared.refusal.Refusal.{Refusal}
use Rattle.verdict.specs.declared.Verdict.{Verdict}
use Rattle.record.specs.declared.Record.{Record}
use Rattle.record.specs.Records.{records}
use Rattle.record.specs.RecordsLeft.{records_left}
use Rattle.answering.specs.declared.State.{State}
use Rattle.answering.specs.States.{starting_state, state_after}
use Rattle.answering.specs.Replies.{reply_to}
use Rattle.sheet.specs.declared.replies.Replies.{Replies}

-- the replies to records in order, each in the state that those before it left
unfoldable pub replies_from : State → List Record → List (Option (Result Verdict Refusal))
replies_from state [] = []
replies_from state (first ∷ rest) = reply_to state first ∷ replies_from (state_after state first) rest

-- the replies to a sheet's records
abbrev pub sheet_replies : List ℕ → List (Option (Result Verdict Refusal))
sheet_replies sheet = replies_from starting_state (records sheet)

-- what the walk has still to give
abbrev pub replies_left : Replies → List (Option (Result Verdict Refusal))
replies_left given = replies_from given.state (records_left given.records)
