-- "A candidate may name any instant, and the key must already hold the answer for that instant and for every one nobody tried." The answer at an instant t, n/m.
-- x is an encounter, y the settings, z a question, s the question in its sense.
use Rattle.std.specs.Prelude.{Bool, cond, Err, None, Ok, Result, Some, ⊤}
use Rattle.instant.specs.declared.Instant.{Instant}
use Rattle.path.specs.declared.SensedQuestion.{SensedQuestion}
use Rattle.path.specs.declared.Side.TheVariants.{Lower, Upper}
use Rattle.path.specs.inner.Tests.{in_window, in_conflict}
use Rattle.question.specs.declared.Encounter.{Encounter}
use Rattle.question.specs.declared.Settings.{Settings}
use Rattle.question.specs.declared.Question.{Question}
use Rattle.question.specs.declared.refusal.Refusal.{Refusal}
use Rattle.question.specs.Refusals.{refusal, two_sided}
use Rattle.sensed.specs.Sensed.{sensed_question}
use Rattle.named_instant.specs.declared.Standing.{Standing}
use Rattle.named_instant.specs.declared.InstantAnswer.{InstantAnswer}
use Rattle.named_instant.specs.declared.InstantAnswer.TheVariants.{Judged, OutOfReach}
use Rattle.named_instant.specs.Reach.{value, in_reach}

-- What holds there: is it in the window, and on each side asked is it a conflict time? (`in_window` and `in_conflict` are the tests of `Window` and `Conflict`, in
-- crates/path/specs.)
unfoldable pub standing : Question → SensedQuestion → Instant → Standing
unfolding in_window in_conflict
standing z s t = record {
  in_window = in_window s t.n t.m;
  lower = in_conflict Lower s t.n t.m;
  upper = cond (two_sided z) (Some (in_conflict Upper s t.n t.m)) None;
}

-- refused as the entry for plain numbers refuses, or out of reach, or judged
abbrev pub reached_answer : Bool → Standing → InstantAnswer
reached_answer reached found = cond reached (Judged found) OutOfReach

abbrev pub checked_instant : Result ⊤ Refusal → InstantAnswer → Result InstantAnswer Refusal
checked_instant (Ok _) found = Ok found
checked_instant (Err why) found = Err why

unfoldable pub instant_answer : Encounter → Settings → Question → Instant → Result InstantAnswer Refusal
unfolding refusal sensed_question standing
instant_answer x y z t = checked_instant (refusal x y z) (reached_answer (in_reach (value t)) (standing z (sensed_question x y z) t))
