-- Document 02, "Maintain what?": "Maintain at least current climb rate" is now never issued to an aircraft going down, and the descent form never to one going up.
use Rattle.std.specs.Prelude.{◌≡◌, ◌⊎◌, ◌↔◌, ℕ, ℤ, pos, ◌<ℤ◌, Err, Result}
use Rattle.question.specs.declared.Encounter.{Encounter}
use Rattle.question.specs.declared.Settings.{Settings}
use Rattle.coded.proofs.EarlierCodes.{earlier_question}
use Rattle.answering.specs.Replies.{asked_answer, refusal_in}
use Rattle.question.specs.declared.refusal.Refusal.{Refusal}
use Rattle.verdict.specs.declared.Verdict.{Verdict}

-- "MCL with v < 0 and MDES with v > 0 can no longer be judged; v = 0 can." MCL is code 10, MDES code 9.
abbrev pub NeverIssued : ℕ → ℤ → Type 0
NeverIssued code v = ((code ≡ 10) × (v <ℤ pos 0)) ⊎ ((code ≡ 9) × (pos 0 <ℤ v))

-- the answer to a question by code: 17 exactly for these, by the ownship's own speed; and where it is not 17, it is that of the earlier rule
pub record MaintainAnswered (x : Encounter) (y : Settings) (code : ℕ) (limit : ℤ) (r : Result Verdict Refusal) : Type 0 where
  pub refused : (refusal_in r ≡ Err Refusal.NeverIssued) ↔ NeverIssued code x.speed
  pub otherwise : ¬ (refusal_in r ≡ Err Refusal.NeverIssued) → r ≡ asked_answer x y (earlier_question code x.speed limit)
