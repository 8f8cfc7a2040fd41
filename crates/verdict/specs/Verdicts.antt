-- "One-sided: a verdict is clear, or a conflict that carries its time. Two-sided: clear if one side or both have no conflict time, naming the sides that
-- have none, else a conflict on both sides with two times." A time is shown where a conflict time exists (`judge`, specs/Demand3.antt).
use Rattle.std.specs.Prelude.{cond, None, Option, Some}
use Rattle.instant.specs.declared.Instant.{Instant}
use Rattle.instant.specs.declared.Time.{Time}
use Rattle.instant.specs.Lowest.{lowest}
use Rattle.path.specs.declared.SensedQuestion.{SensedQuestion}
use Rattle.path.specs.declared.Side.TheVariants.{Lower, Upper}
use Rattle.shown.specs.TimeShown.{time_shown}
use Rattle.question.specs.declared.Question.{Question}
use Rattle.verdict.specs.declared.ClearSides.{ClearSides}
use Rattle.verdict.specs.declared.Verdict.{Verdict}
use Rattle.verdict.specs.declared.Verdict.TheVariants.{Clear, Conflict, Conflicts}
use Rattle.question.specs.Refusals.{two_sided}

-- "whole seconds, remainder and divisor", in lowest terms
abbrev pub time_of : Instant → Time
time_of t = lowest t.n t.m

abbrev pub one_sided_verdict : Option Instant → Verdict
one_sided_verdict None = Clear ClearSides.Lower
one_sided_verdict (Some t) = Conflict (time_of t)

abbrev pub two_sided_verdict : Option Instant → Option Instant → Verdict
two_sided_verdict None None = Clear ClearSides.Both
two_sided_verdict None (Some u) = Clear ClearSides.Lower
two_sided_verdict (Some t) None = Clear ClearSides.Upper
two_sided_verdict (Some t) (Some u) = Conflicts (time_of t) (time_of u)

-- from the times shown on the two sides; a one-sided question has only the lower one
abbrev pub verdict_of : Question → Option Instant → Option Instant → Verdict
verdict_of z lower upper = cond (two_sided z) (two_sided_verdict lower upper) (one_sided_verdict lower)

unfoldable pub verdict : Question → SensedQuestion → Verdict
unfolding time_shown
verdict z s = verdict_of z (time_shown Lower s) (time_shown Upper s)
