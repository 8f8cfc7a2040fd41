-- Document 01, "The time shown", as it stands there: what it is for a moment to be the one that the rule picks.
use Rattle.std.specs.Prelude.{◌≡◌, ◌⊎◌, ℕ, ◌<◌, None, Option, Some}
use Rattle.instant.specs.declared.Instant.{Instant}
use Rattle.instant.specs.Order.{◌≼◌}
use Rattle.path.specs.declared.SensedQuestion.{SensedQuestion}
use Rattle.path.specs.declared.Side.{Side}
use Rattle.path.specs.Window.{window_end}
use Rattle.path.specs.Conflict.{Conflict}
use Rattle.path.specs.Instants.{Among, instants}

-- "Of these instants that lie in the window, the earliest with a conflict": a conflict time is in the window
pub record Earliest (side : Side) (s : SensedQuestion) (t : Instant) : Type 0 where
  pub among : Among t (instants side s)
  pub conflict : Conflict side s t.n t.m
  pub first : (x : Instant) → Among x (instants side s) → Conflict side s x.n x.m → t ≼ x

-- "none conflicts"
abbrev pub NoneConflicts : Side → SensedQuestion → Type 0
NoneConflicts side s = (x : Instant) → Among x (instants side s) → ¬ Conflict side s x.n x.m

-- "If none conflicts and the window has no end, the first whole second with a conflict"
pub record FirstWholeSecond (side : Side) (s : SensedQuestion) (t : Instant) : Type 0 where
  pub none : NoneConflicts side s
  pub endless : window_end s ≡ None
  pub whole : t.m ≡ 1
  pub conflict : Conflict side s t.n 1
  pub first : (j : ℕ) → j < t.n → ¬ Conflict side s j 1

-- the rule picks this moment, or none
abbrev pub Picks : Side → SensedQuestion → Option Instant → Type 0
Picks side s (Some t) = Earliest side s t ⊎ FirstWholeSecond side s t
Picks side s None = NoneConflicts side s × (window_end s ≡ None → (j : ℕ) → ¬ Conflict side s j 1)
