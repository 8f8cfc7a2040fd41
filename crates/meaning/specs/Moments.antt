-- What kind of moment a time shown is: the first of these whose instant it is, among the instants that its side's time rule tries (`path`, specs/Instants.antt): lower, "window
-- start; d; d + max(0, −u_d)/a if q ≥ 0; window end", else "the first whole second with a conflict"; upper, "Window start, else window end, else, without an end, the first
-- whole second with a conflict".
use Rattle.std.specs.Prelude.{Bool, false, cond, ◌*◌, eqb, None, Option, Some}
use Rattle.instant.specs.declared.Instant.{Instant}
use Rattle.instant.specs.Order.{◌÷◌}
use Rattle.path.specs.declared.SensedQuestion.{SensedQuestion}
use Rattle.path.specs.declared.Side.{Side}
use Rattle.path.specs.declared.Side.TheVariants.{Lower, Upper}
use Rattle.path.specs.Letters.{q, a, d}
use Rattle.path.specs.Paths.{u_d}
use Rattle.path.specs.Window.{window_start, window_end}
use Rattle.path.specs.Instants.{turning_instant}
use Rattle.meaning.specs.declared.moments.Moment.{Moment}
use Rattle.meaning.specs.declared.moments.Moment.TheVariants.{WindowStart, DelayEnd, TurningInstant, WindowEnd, FirstWholeSecond}

-- one rational time, as 1/2 and 2/4 are
abbrev pub same_time : Instant → Instant → Bool
same_time t u = eqb (t.n * u.m) (u.n * t.m)

-- there is that instant, and it is t
abbrev pub is_instant : Option Instant → Instant → Bool
is_instant (Some u) t = same_time t u
is_instant None t = false

abbrev pub end_or_second : SensedQuestion → Instant → Moment
end_or_second s t = cond (is_instant (window_end s) t) WindowEnd FirstWholeSecond

-- d, and the turning instant, are of the lower path alone
abbrev pub inner_moment : Side → SensedQuestion → Instant → Moment
inner_moment Lower s t = cond (same_time t (d s ÷ 1)) DelayEnd (cond (is_instant (turning_instant (q s) (a s) (d s) (u_d s)) t) TurningInstant (end_or_second s t))
inner_moment Upper s t = end_or_second s t

unfoldable pub moment_at : Side → SensedQuestion → Instant → Moment
moment_at side s t = cond (same_time t (window_start s)) WindowStart (inner_moment side s t)
