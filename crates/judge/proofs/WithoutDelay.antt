-- The earlier answer, when two-sided questions had no delay: the earlier refusals, and the verdict from the time that the earlier upper path shows. With delay 0 the
-- answer is the earlier one, and one-sided with any delay. Assumes nothing.
use Rattle.std.specs.Prelude.{Option, Result}
use mathlib.Core.Path.{◌≡◌, ap, ap₂, ◌∙◌, sym}
use mathlib.Core.Bool.{Bool, false, cond}
use lib.IntN.{ℤ, pos}
use Rattle.integers.specs.Extremes.{max0}
use Rattle.path.specs.declared.SensedQuestion.{SensedQuestion}
use Rattle.path.specs.declared.Side.TheVariants.{Lower, Upper}
use Rattle.shown.specs.TimeShown.{time_shown}
use Rattle.shown.proofs.WithoutDelay.{earlier_shown, shown_without_delay}
use Rattle.question.specs.declared.Encounter.{Encounter}
use Rattle.question.specs.declared.Settings.{Settings}
use Rattle.question.specs.declared.Question.{Question}
use Rattle.question.specs.Refusals.{two_sided}
use Rattle.question.proofs.EarlierTimes.{earlier_refusal, refusal_without_delay, refusal_one_sided}
use Rattle.sensed.specs.Sensed.{sensed_question}
use Rattle.verdict.specs.declared.Verdict.{Verdict}
use Rattle.verdict.specs.Verdicts.{one_sided_verdict, two_sided_verdict, verdict_of, verdict}
use Rattle.judge.specs.Answers.{checked_answer, answer}
use Rattle.instant.specs.declared.Instant.{Instant}
use Rattle.question.specs.declared.refusal.Refusal.{Refusal}

unfoldable pub earlier_verdict : Question → SensedQuestion → Verdict
unfolding time_shown earlier_shown
earlier_verdict z s = verdict_of z (time_shown Lower s) (earlier_shown s)

unfoldable pub earlier_answer : Encounter → Settings → Question → Result Verdict Refusal
unfolding earlier_refusal sensed_question earlier_verdict
earlier_answer x y z = checked_answer (earlier_refusal x y z) (earlier_verdict z (sensed_question x y z))

module _ (x : Encounter) (y : Settings) (z : Question) where
  no_delay_lem : z.delay ≡ pos 0 → (sensed_question x y z).delay ≡ 0
  unfolding sensed_question
  no_delay_lem none = ap (λ (delay : ℤ). max0 delay) none

  verdict_without_delay : z.delay ≡ pos 0 → verdict z (sensed_question x y z) ≡ earlier_verdict z (sensed_question x y z)
  unfolding verdict earlier_verdict
  verdict_without_delay none =
      let s = sensed_question x y z in
      ap (λ (upper : Option Instant). verdict_of z (time_shown Lower s) upper) (shown_without_delay s (no_delay_lem none))

  -- "With delay 0 all answers equal the earlier ones"
  pub answer_without_delay : z.delay ≡ pos 0 → answer x y z ≡ earlier_answer x y z
  unfolding answer earlier_answer
  answer_without_delay none = ap₂ checked_answer (refusal_without_delay x y z none) (verdict_without_delay none)

  verdict_one_sided : two_sided z ≡ false → verdict z (sensed_question x y z) ≡ earlier_verdict z (sensed_question x y z)
  unfolding verdict earlier_verdict
  verdict_one_sided one =
      let s = sensed_question x y z in
      ap (λ (two : Bool). cond two (two_sided_verdict (time_shown Lower s) (time_shown Upper s)) (one_sided_verdict (time_shown Lower s))) one
      ∙ sym (ap (λ (two : Bool). cond two (two_sided_verdict (time_shown Lower s) (earlier_shown s)) (one_sided_verdict (time_shown Lower s))) one)

  pub answer_one_sided : two_sided z ≡ false → answer x y z ≡ earlier_answer x y z
  unfolding answer earlier_answer
  answer_one_sided one = ap₂ checked_answer (refusal_one_sided x y z one) (verdict_one_sided one)
