-- A record's reply is its answer's record. Assumes nothing.
use Rattle.std.proofs.Common.{◌≡◌, refl, ap}
use Rattle.std.specs.Prelude.{Err, Ok, Result, Some}
use Rattle.question.specs.RefusalNumbers.{refusal_number}
use Rattle.question.specs.declared.refusal.Refusal.{Refusal}
use Rattle.verdict.specs.declared.Verdict.{Verdict}
use Rattle.judge.specs.Answers.{answer_record}
use Rattle.reply.specs.AnswerBytes.{numbered_record, record_bytes, reply_bytes}

same_record : (answer : Result Verdict Refusal) → numbered_record refusal_number answer ≡ answer_record answer
same_record (Ok verdict) = refl
same_record (Err why) = refl

pub answer_bytes : (answer : Result Verdict Refusal) → reply_bytes (Some answer) ≡ record_bytes (answer_record answer)
answer_bytes answer = ap record_bytes (same_record answer)
