-- Definitions that only inner contracts use; an instructor need not read them.
-- Obeying, second by second: stretches and the delay last whole seconds, so within the second from n to n + 1 the acceleration is one, and one rule is in force.
use Rattle.std.specs.Prelude.{List, ◌⊎◌, ℕ, suc, ◌≤◌, ◌<◌, pos, nat_abs, ◌≤ℤ◌}
use Rattle.path.specs.declared.SensedQuestion.{SensedQuestion}
use Rattle.path.specs.Letters.{u, q, a, d, e}
use Rattle.flight.specs.declared.Stretch.{Stretch}
use Rattle.flight.specs.Flight.{acceleration_at, speed_at}

-- from d on, a second has the acceleration, or the speed at both its ends
pub record SecondObeys (s : SensedQuestion) (l : List Stretch) (n : ℕ) : Type 0 where
  pub delayed : n < d s → nat_abs (acceleration_at l n 1) ≤ e s
  pub advised : d s ≤ n → (pos (a s) ≤ℤ acceleration_at l n 1) ⊎ ((q s ≤ℤ speed_at (u s) l n 1) × (q s ≤ℤ speed_at (u s) l (suc n) 1))
