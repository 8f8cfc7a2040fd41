-- What is said of a record at the instant that is named: nothing where none is, and nothing of a record that asks nothing or whose question is refused.
use Rattle.std.specs.Prelude.{Err, Ok, None, Option, Some, Result}
use Rattle.instant.specs.declared.Instant.{Instant}
use Rattle.question.specs.declared.refusal.Refusal.{Refusal}
use Rattle.record.specs.declared.Record.{Record}
use Rattle.verdict.specs.declared.Verdict.{Verdict}
use Rattle.named_instant.specs.declared.InstantAnswer.{InstantAnswer}
use Rattle.answering.specs.declared.State.{State}
use Rattle.answering.specs.InstantReplies.{instant_reply}
use Rattle.words.specs.declared.standings.Named.{Named}

abbrev pub named_answer : Instant → Verdict → Option (Result InstantAnswer Refusal) → Option Named
named_answer t verdict (Some (Ok found)) = Some (record { instant = t; answer = found; verdict = verdict })
named_answer t verdict (Some (Err why)) = None
named_answer t verdict None = None

abbrev pub named : State → Record → Result Verdict Refusal → Option Instant → Option Named
named state given (Ok verdict) (Some t) = named_answer t verdict (instant_reply state given t)
named state given (Ok verdict) None = None
named state given (Err why) at = None
