-- "Lower conflict at t: t in the window and w × h + k ≥ f(t). Upper conflict: t in the window and w × h − k ≤ j(t)." s is a sensed question.
use Rattle.std.specs.Prelude.{ℕ, ◌≤◌, ℤ, pos, ◌+ℤ◌, ◌-ℤ◌, ◌*ℤ◌, ◌≤ℤ◌}
use Rattle.instant.specs.declared.Instant.{Instant}
use Rattle.path.specs.declared.SensedQuestion.{SensedQuestion}
use Rattle.path.specs.declared.Side.{Side}
use Rattle.path.specs.declared.Side.TheVariants.{Lower, Upper}
use Rattle.path.specs.Letters.{k, wh, a, b}
use Rattle.path.specs.Paths.{lower_path, upper_path}
use Rattle.path.specs.Window.{Window}

-- The puck's edge that a path must be strictly beyond, on the path's scale: w × h + k, times 2 × a × m²; w × h − k, times 2 × b × m²
abbrev pub lower_edge : SensedQuestion → ℕ → ℤ
lower_edge s m = pos 2 *ℤ pos (a s) *ℤ pos m *ℤ pos m *ℤ (wh s +ℤ pos (k s))

abbrev pub upper_edge : SensedQuestion → ℕ → ℤ
upper_edge s m = pos 2 *ℤ pos (b s) *ℤ pos m *ℤ pos m *ℤ (wh s -ℤ pos (k s))

-- "not strictly beyond it vertically" at n/m: the edges count
abbrev pub NotBeyond : Side → SensedQuestion → ℕ → ℕ → Type 0
NotBeyond Lower s n m = lower_path s n m ≤ℤ lower_edge s m
NotBeyond Upper s n m = upper_edge s m ≤ℤ upper_path s n m

-- n/m is a conflict time on the side
pub record Conflict (side : Side) (s : SensedQuestion) (n m : ℕ) : Type 0 where
  pub window : Window s n m
  pub vertical : NotBeyond side s n m

-- A conflict time on the side: "n/m with whole n ≥ 0 and m ≥ 1"; and that there is one
pub record ConflictTime (side : Side) (s : SensedQuestion) (t : Instant) : Type 0 where
  pub divisor : 1 ≤ t.m
  pub conflict : Conflict side s t.n t.m

abbrev pub ConflictExists : Side → SensedQuestion → Type 0
ConflictExists side s = (t : Instant) × ConflictTime side s t
