-- The time shown, in a form that computes. What is believed is the rule, in `TimeRule`; that this form is the moment that the rule picks is proved:
-- `rule_picks`, in `proofs/RulePicks.antt`.
use Rattle.std.specs.Prelude.{Bool, true, false, ◌&&◌, List, [], ◌∷◌, ℕ, zero, suc, ◌^◌, pos, None, Option, Some}
use Rattle.std.specs.Option.{is_none}
use Rattle.std.specs.Int.Signed.{lt_z}
use Rattle.instant.specs.declared.Instant.{Instant}
use Rattle.instant.specs.Order.{◌÷◌}
use Rattle.path.specs.declared.SensedQuestion.{SensedQuestion}
use Rattle.path.specs.declared.Side.{Side}
use Rattle.path.specs.declared.Side.TheVariants.{Lower, Upper}
use Rattle.path.specs.Letters.{q}
use Rattle.path.specs.Paths.{upper_target}
use Rattle.path.specs.Window.{window_end}
use Rattle.path.specs.inner.Tests.{in_window, in_conflict}
use Rattle.path.specs.Instants.{instants}

-- the first of a list that passes a test; the instants stand in time's order
abbrev pub first_of : (Instant → Bool) → List Instant → Option Instant
first_of test [] = None
first_of test (t ∷ l) = elim (test t) [ true ↦ Some t | false ↦ first_of test l ]

-- the first whole second, of `f` seconds from i on, that passes a test
abbrev pub first_second : (ℕ → Bool) → ℕ → ℕ → Option Instant
first_second test zero i = None
first_second test (suc f) i = elim (test i) [ true ↦ Some (i ÷ 1) | false ↦ first_second test f (suc i) ]

abbrev pub or_else : Option Instant → Option Instant → Option Instant
or_else (Some t) other = Some t
or_else None other = other

-- The path goes towards the intruder for ever: lower, q < 0; upper, its target is above 0
abbrev pub approaches : Side → SensedQuestion → Bool
approaches Lower s = lt_z (q s) (pos 0)
approaches Upper s = lt_z (pos 0) (upper_target s)

-- Whole seconds are tried only where the window has no end, holds 0, as then it holds every time, and where the path goes towards the intruder for ever:
-- else no second has a conflict where the instants have none
abbrev pub searches : Side → SensedQuestion → Bool
searches side s = is_none (window_end s) && (in_window s 0 1 && approaches side s)

-- seconds enough that such a path has met the intruder, whatever the accepted question
abbrev pub seconds_tried : Side → ℕ
seconds_tried Lower = 2 ^ 22
seconds_tried Upper = 2 ^ 28

unfoldable pub searched : Side → SensedQuestion → Option Instant
unfolding in_window in_conflict
searched side s = elim (searches side s) [ true ↦ first_second (λ j. in_conflict side s j 1) (seconds_tried side) 0 | false ↦ None ]

-- what is shown where only the instants l are left to try
unfoldable pub shown_from : Side → SensedQuestion → List Instant → Option Instant
unfolding searched in_conflict
shown_from side s l = or_else (first_of (λ t. in_conflict side s t.n t.m) l) (searched side s)

unfoldable pub time_shown : Side → SensedQuestion → Option Instant
unfolding shown_from
time_shown side s = shown_from side s (instants side s)
