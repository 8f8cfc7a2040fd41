-- Definitions that only inner contracts use; an instructor need not read them. What the steps of the code know and give: which instants have been tried
-- without a conflict, where the path is lowest, and the first whole second by its height alone.
use Rattle.std.specs.Prelude.{◌≡◌, true, false, cond, None, Option, Some}
use Rattle.std.specs.Bool.{then_some}
use Rattle.instant.specs.declared.Instant.{Instant}
use Rattle.instant.specs.Order.{no_later}
use Rattle.path.specs.declared.SensedQuestion.{SensedQuestion}
use Rattle.path.specs.declared.Side.{Side}
use Rattle.path.specs.declared.Side.TheVariants.{Lower, Upper}
use Rattle.path.specs.Letters.{q, a, d}
use Rattle.path.specs.Paths.{u_d}
use Rattle.path.specs.Window.{window_start}
use Rattle.path.specs.inner.Tests.{in_window, not_beyond, in_conflict}
use Rattle.path.specs.Instants.{turning_instant}
use Rattle.path.specs.inner.Sizes.{search_start}
use Rattle.shown.specs.declared.LowestPoint.{LowestPoint}
use Rattle.shown.specs.declared.LowestPoint.TheVariants.{Passed, Inside, Beyond}
use Rattle.shown.specs.TimeShown.{approaches, first_second, seconds_tried}

-- the window holds its start, and so has a time
abbrev pub Opened : SensedQuestion → Type 0
Opened s = in_window s (window_start s).n (window_start s).m ≡ true

-- no conflict at the window's start
abbrev pub StartTried : Side → SensedQuestion → Type 0
StartTried side s = in_conflict side s (window_start s).n (window_start s).m ≡ false

-- nor, on the lower side, at the delay's end
abbrev pub InstantsTried : Side → SensedQuestion → Type 0
InstantsTried Lower s = StartTried Lower s × (in_conflict Lower s (d s) 1 ≡ false)
InstantsTried Upper s = StartTried Upper s

-- an instant of the window, shown if the path is not beyond the intruder there
unfoldable pub shown_at : Side → SensedQuestion → Instant → Option Instant
unfolding not_beyond
shown_at side s t = then_some (not_beyond side s t.n t.m) t

-- the turning instant of a question, if there is one
abbrev pub turning_of : SensedQuestion → Option Instant
turning_of s = turning_instant (q s) (a s) (d s) (u_d s)

-- Where the path's lowest point after the delay lies, by its turning instant: "d + max(0, −u_d)/a if q ≥ 0"
abbrev pub lowest_by : SensedQuestion → Option Instant → LowestPoint
lowest_by s None = Beyond
lowest_by s (Some t) = cond (no_later t (window_start s)) Passed (cond (in_window s t.n t.m) (Inside t) Beyond)

unfoldable pub lowest_point : SensedQuestion → LowestPoint
unfolding in_window
lowest_point s = lowest_by s (turning_of s)

-- a search may begin: the path goes towards the intruder for ever, and is beyond it at 0 and where the search starts
pub record Searchable (side : Side) (s : SensedQuestion) : Type 0 where
  pub approach : approaches side s ≡ true
  pub zero : not_beyond side s 0 1 ≡ false
  pub start : not_beyond side s (search_start side s) 1 ≡ false

-- the first whole second at which the path is not beyond the intruder
unfoldable pub first_reached : Side → SensedQuestion → Option Instant
unfolding not_beyond
first_reached side s = first_second (λ j. not_beyond side s j 1) (seconds_tried side) 0
