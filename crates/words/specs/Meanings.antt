-- What is said of the verdict on a record: nothing of a record that asks nothing or whose question is refused.
use Rattle.std.specs.Prelude.{Err, Ok, None, Option, Some, Result}
use Rattle.question.specs.declared.refusal.Refusal.{Refusal}
use Rattle.record.specs.declared.Record.{Record}
use Rattle.meaning.specs.declared.Meaning.{Meaning}
use Rattle.answering.specs.declared.State.{State}
use Rattle.answering.specs.MeaningReplies.{meaning_reply}

abbrev pub accepted_meaning : Option (Result Meaning Refusal) → Option Meaning
accepted_meaning (Some (Ok found)) = Some found
accepted_meaning (Some (Err why)) = None
accepted_meaning None = None

abbrev pub meaning_said : State → Record → Option Meaning
meaning_said state given = accepted_meaning (meaning_reply state given)
