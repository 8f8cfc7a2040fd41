-- "The band between the paths" (document 02): what is shown of the answer to a two-sided question. The band itself stands in `band`, specs/Band.antt.
use Rattle.std.specs.Prelude.{◌≡◌, true, ◌↔◌, ℕ, Err, Ok, Result}
use Rattle.question.specs.declared.Encounter.{Encounter}
use Rattle.question.specs.declared.Settings.{Settings}
use Rattle.question.specs.declared.Question.{Question}
use Rattle.question.specs.Refusals.{two_sided, refusal}
use Rattle.sensed.specs.Sensed.{sensed_question}
use Rattle.band.specs.Band.{lower_height, upper_height, NoHigher, AlwaysOutside, SaysClear}
use Rattle.band.proofs.AcceptedBand as accepted
use Rattle.band.proofs.WhyTested as why
use Rattle.band.proofs.WhyThick as thick
use Rattle.question.specs.declared.refusal.Refusal.{Refusal}
use Rattle.verdict.specs.declared.Verdict.{Verdict}

-- "a two-sided question is clear exactly if at every rational time of the window the intruder's sensed height is outside that band"
abbrev pub ClearOutsideBand : Encounter → Settings → Question → Result Verdict Refusal → Type 0
ClearOutsideBand x y z answer = SaysClear answer ↔ AlwaysOutside (sensed_question x y z)

-- "The checks behind 14 and 15 are the premises": they keep the lower path from crossing the upper, f ≤ j at every rational time,
pub paths_do_not_cross : (x : Encounter) (y : Settings) (z : Question) → refusal x y z ≡ Ok tt → two_sided z ≡ true → (n m : ℕ) → NoHigher (lower_height (sensed_question x y z) n m) (upper_height (sensed_question x y z) n m)
paths_do_not_cross = accepted.paths_do_not_cross

-- and without either the statement fails: a question refused by it has a conflict time on each side and is always outside the band
pub needs_14 : (refusal why.above_7 why.puck_1 why.weak ≡ Err Refusal.StrengthOutside) × why.Fails why.above_7 why.puck_1 why.weak
needs_14 = why.needs_14

pub needs_15 : (refusal why.above_7 why.puck_1 why.slow ≡ Err Refusal.UpperTargetBelow) × why.Fails why.above_7 why.puck_1 why.slow
needs_15 = why.needs_15

-- nor may the band be without thickness, k 0, which 2 refuses
pub needs_2 : (refusal thick.above_2 thick.puck_0 thick.one_path ≡ Err Refusal.PuckOutside) × why.Fails thick.above_2 thick.puck_0 thick.one_path
needs_2 = thick.needs_2
