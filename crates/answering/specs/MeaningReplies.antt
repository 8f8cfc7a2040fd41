-- What the verdict on a record that asks means: the meaning of the question that the record is, of the encounter and settings kept.
use Rattle.std.specs.Prelude.{ℕ, ℤ, Err, None, Ok, Option, Result, Some}
use Rattle.question.specs.declared.Encounter.{Encounter}
use Rattle.question.specs.declared.Settings.{Settings}
use Rattle.question.specs.declared.Question.{Question}
use Rattle.question.specs.declared.refusal.Refusal.{Refusal}
use Rattle.coded.specs.Coded.{coded_question}
use Rattle.meaning.specs.declared.Meaning.{Meaning}
use Rattle.meaning.specs.Meanings.{meaning_answer}
use Rattle.record.specs.declared.Record.{Record}
use Rattle.record.specs.declared.Record.TheVariants.{Puck, DelayAcceleration, Coded, Free}
use Rattle.answering.specs.declared.State.{State}

-- a question by code that is asked, or its refusal 8, 9 or 17
abbrev pub asked_meaning : Encounter → Settings → Result Question Refusal → Result Meaning Refusal
asked_meaning x y (Ok z) = meaning_answer x y z
asked_meaning x y (Err why) = Err why

-- refused as the question is: first 7, then 8, 9 or 17
unfoldable pub coded_meaning : Option Encounter → Settings → ℕ → ℤ → Result Meaning Refusal
coded_meaning None y code limit = Err Refusal.NoEncounter
coded_meaning (Some x) y code limit = asked_meaning x y (coded_question code x.speed limit)

unfoldable pub free_meaning : Option Encounter → Settings → Question → Result Meaning Refusal
free_meaning None y z = Err Refusal.NoEncounter
free_meaning (Some x) y z = meaning_answer x y z

-- an encounter, a puck and an e ask nothing
unfoldable pub meaning_reply : State → Record → Option (Result Meaning Refusal)
meaning_reply state (Record.Encounter x) = None
meaning_reply state (Puck p k) = None
meaning_reply state (DelayAcceleration e) = None
meaning_reply state (Coded code limit) = Some (coded_meaning state.encounter state.settings code limit)
meaning_reply state (Free z) = Some (free_meaning state.encounter state.settings z)
