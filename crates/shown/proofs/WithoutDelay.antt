-- The time that the earlier upper path shows, by the same rule, and that with delay 0 it is the time shown: the tests are equal at every instant and second.
-- Assumes nothing.
use Rattle.std.specs.Prelude.{None, Option, Some}
use Rattle.std.specs.Option.{is_none}
use mathlib.Core.Path.{◌≡◌, refl, ap, ap₂}
use mathlib.Core.Bool.{Bool, true, false, ◌&&◌}
use mathlib.Core.List.{List, [], ◌∷◌}
use Prim.Native.Nat.{ℕ}
use lib.IntN.{ℤ, pos}
use lib.Signed.{lt_z}
use Rattle.instant.specs.declared.Instant.{Instant}
use Rattle.path.specs.declared.SensedQuestion.{SensedQuestion}
use Rattle.path.specs.declared.Side.TheVariants.{Upper}
use Rattle.path.specs.Letters.{d}
use Rattle.path.specs.Paths.{upper_target}
use Rattle.path.specs.Window.{window_end}
use Rattle.path.specs.Instants.{instants}
use Rattle.path.specs.inner.Tests.{in_window, in_conflict}
use Rattle.path.proofs.WithoutDelay.{earlier_target, earlier_conflict, target_without_delay, conflict_without_delay}
use Rattle.shown.proofs.SameTests.{second_same}
use Rattle.shown.specs.TimeShown.{first_of, first_second, or_else, seconds_tried, searched, shown_from, time_shown}

-- the rule for a test of the instants, in which the path's target is q
abbrev shown_by : SensedQuestion → (ℕ → ℕ → Bool) → ℤ → ℕ → Option Instant
shown_by s test q f =
    or_else (first_of (λ t. test t.n t.m) (instants Upper s))
    (elim (is_none (window_end s) && (in_window s 0 1 && lt_z (pos 0) q)) [ true ↦ first_second (λ j. test j 1) f 0 | false ↦ None ])

-- "Upper: Window start, else window end, else the first whole second", by the earlier path
unfoldable pub earlier_shown : SensedQuestion → Option Instant
unfolding in_window earlier_conflict
earlier_shown s = shown_by s (earlier_conflict s) (earlier_target s) (seconds_tried Upper)

-- ---- equal tests pass the same
first_same : (test test' : Instant → Bool) → ((t : Instant) → test t ≡ test' t) → (l : List Instant) → first_of test l ≡ first_of test' l
first_same test test' h [] = refl
first_same test test' h (t ∷ l) = ap₂ (λ (b : Bool) (m : Option Instant). elim b as (λ _. (Option Instant)) [ true ↦ Some t | false ↦ m ]) (h t) (first_same test test' h l)

shown_same : (s : SensedQuestion) → d s ≡ 0 → (f : ℕ) → shown_by s (in_conflict Upper s) (upper_target s) f ≡ shown_by s (earlier_conflict s) (earlier_target s) f
shown_same s none f =
    ap₂ or_else
    (first_same (λ t. in_conflict Upper s t.n t.m) (λ t. earlier_conflict s t.n t.m) (λ t. conflict_without_delay s none t.n t.m) (instants Upper s))
    (ap₂ (λ (b : Bool) (m : Option Instant). elim b as (λ _. (Option Instant)) [ true ↦ m | false ↦ None ])
    (ap (λ (q : ℤ). is_none (window_end s) && (in_window s 0 1 && lt_z (pos 0) q)) (target_without_delay s none))
    (second_same (λ j. in_conflict Upper s j 1) (λ j. earlier_conflict s j 1) (λ j. conflict_without_delay s none j 1) f 0))

pub shown_without_delay : (s : SensedQuestion) → d s ≡ 0 → time_shown Upper s ≡ earlier_shown s
unfolding time_shown shown_from searched earlier_shown
shown_without_delay s none = shown_same s none (seconds_tried Upper)
