-- What document 02's requests leave as it was. The rule before a request stands as "earlier" in the laws of the crate that it changed.
use Rattle.std.specs.Prelude.{◌≡◌, false, ℕ, T, ℤ, pos}
use Rattle.limits.specs.Limits.{delay_within}
use Rattle.integers.specs.Extremes.{maxℤ}
use Rattle.path.specs.declared.SensedQuestion.{SensedQuestion}
use Rattle.path.specs.Letters.{u, d, upper_q, b}
use Rattle.path.specs.Paths.{advice_gain, upper_path}
use Rattle.path.proofs.WithoutDelay as paths
use Rattle.question.specs.declared.Encounter.{Encounter}
use Rattle.question.specs.declared.Settings.{Settings}
use Rattle.question.specs.declared.Question.{Question}
use Rattle.question.specs.Refusals.{two_sided, limit_allowed, times_within, refusal}
use Rattle.question.proofs.EarlierAdvice as advice
use Rattle.question.proofs.EarlierTimes as times
use Rattle.coded.proofs.EarlierCodes as codes
use Rattle.judge.specs.Answers.{answer}
use Rattle.judge.proofs.WithoutDelay as answers

-- "Which part of the advice was bad": the same questions are refused, every number but 5 stays, and each 5 is now one of 5, 14, 15, 16.
pub only_five_split : (x : Encounter) (y : Settings) (z : Question) → advice.OnlyFiveSplit (advice.earlier_refusal x y z) (refusal x y z)
only_five_split = advice.only_five_split

-- "Maintain what?": for every code, speed and limit, 17 exactly for MCL with v < 0 and MDES with v > 0; and where it is not 17, the question by code is what it was.
pub only_17 : (code : ℕ) (v limit : ℤ) → codes.OnlySeventeen code v limit
only_17 = codes.only_17

-- "Two-sided with a slow pilot": "A delay within limits is no longer a ground for 6". "With delay 0 all answers equal the earlier ones", and so do all one-sided answers. The earlier answer has the earlier refusal 6 and
-- the earlier upper path.
pub delay_no_ground : (z : Question) → T (delay_within z.delay) → T (limit_allowed z) → T (times_within z)
delay_no_ground = times.delay_no_ground

pub answer_without_delay : (x : Encounter) (y : Settings) (z : Question) → z.delay ≡ pos 0 → answer x y z ≡ answers.earlier_answer x y z
answer_without_delay = answers.answer_without_delay

pub answer_one_sided : (x : Encounter) (y : Settings) (z : Question) → two_sided z ≡ false → answer x y z ≡ answers.earlier_answer x y z
answer_one_sided = answers.answer_one_sided

-- With delay 0 the upper path is document 01's: "the same rule from t = 0 with b for a and with max(w × (upper target − vi), u) for q"
pub path_without_delay : (s : SensedQuestion) → d s ≡ 0 → (n m : ℕ) → upper_path s n m ≡ advice_gain (b s) (maxℤ (upper_q s) (u s)) (u s) n m
path_without_delay = paths.path_without_delay
