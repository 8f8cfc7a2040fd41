-- What holds at an instant t for a record that asks: the answer at t to the question that the record is, of the encounter and settings kept.
use Rattle.std.specs.Prelude.{ℕ, ℤ, Err, None, Ok, Option, Result, Some}
use Rattle.instant.specs.declared.Instant.{Instant}
use Rattle.question.specs.declared.Encounter.{Encounter}
use Rattle.question.specs.declared.Settings.{Settings}
use Rattle.question.specs.declared.Question.{Question}
use Rattle.question.specs.declared.refusal.Refusal.{Refusal}
use Rattle.coded.specs.Coded.{coded_question}
use Rattle.named_instant.specs.declared.InstantAnswer.{InstantAnswer}
use Rattle.named_instant.specs.InstantAnswers.{instant_answer}
use Rattle.record.specs.declared.Record.{Record}
use Rattle.record.specs.declared.Record.TheVariants.{Puck, DelayAcceleration, Coded, Free}
use Rattle.answering.specs.declared.State.{State}

-- a question by code that is asked, or its refusal 8, 9 or 17
abbrev pub asked_instant : Encounter → Settings → Instant → Result Question Refusal → Result InstantAnswer Refusal
asked_instant x y t (Ok z) = instant_answer x y z t
asked_instant x y t (Err why) = Err why

-- refused as the question is: first 7, then 8, 9 or 17
unfoldable pub coded_instant : Option Encounter → Settings → Instant → ℕ → ℤ → Result InstantAnswer Refusal
coded_instant None y t code limit = Err Refusal.NoEncounter
coded_instant (Some x) y t code limit = asked_instant x y t (coded_question code x.speed limit)

unfoldable pub free_instant : Option Encounter → Settings → Instant → Question → Result InstantAnswer Refusal
free_instant None y t z = Err Refusal.NoEncounter
free_instant (Some x) y t z = instant_answer x y z t

-- an encounter, a puck and an e ask nothing
unfoldable pub instant_reply : State → Record → Instant → Option (Result InstantAnswer Refusal)
instant_reply state (Record.Encounter x) t = None
instant_reply state (Puck p k) t = None
instant_reply state (DelayAcceleration e) t = None
instant_reply state (Coded code limit) t = Some (coded_instant state.encounter state.settings t code limit)
instant_reply state (Free z) t = Some (free_instant state.encounter state.settings t z)
