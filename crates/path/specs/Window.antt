-- "The window is every rational t ≥ 0, up to the limit if one is set, with |r − c × t| ≤ p"; and its two ends. s is a sensed question.
use Rattle.std.specs.Prelude.{ℕ, zero, suc, ◌*◌, ◌≤◌, ℤ, pos, ◌+ℤ◌, ◌-ℤ◌, ◌*ℤ◌, nat_abs, None, Option, Some}
use Rattle.integers.specs.Extremes.{max0}
use Rattle.instant.specs.declared.Instant.{Instant}
use Rattle.instant.specs.Order.{◌÷◌, earlier}
use Rattle.path.specs.declared.SensedQuestion.{SensedQuestion}
use Rattle.path.specs.Letters.{r, c, p}

-- n/m is no later than the limit
abbrev pub InTime : Option ℕ → ℕ → ℕ → Type 0
InTime None n m = Unit {0}
InTime (Some L) n m = n ≤ L * m

-- r − c × t, times m
abbrev pub distance_at : SensedQuestion → ℕ → ℕ → ℤ
distance_at s n m = r s *ℤ pos m -ℤ pos (c s) *ℤ pos n

-- n/m is in the window
pub record Window (s : SensedQuestion) (n m : ℕ) : Type 0 where
  pub near : nat_abs (distance_at s n m) ≤ p s * m
  pub intime : InTime s.limit n m

-- The window starts at max(0, (r − p)/c), or at 0 where c = 0.
abbrev pub start_of : ℕ → ℤ → ℕ → Instant
start_of zero r p = 0 ÷ 1
start_of (suc c) r p = max0 (r -ℤ pos p) ÷ suc c

abbrev pub window_start : SensedQuestion → Instant
window_start s = start_of (c s) (r s) (p s)

-- (r + p)/c, for c above 0; where it is negative the window is empty
abbrev pub exit_of : ℕ → ℤ → ℕ → Instant
exit_of c r p = max0 (r +ℤ pos p) ÷ c

-- It ends at (r + p)/c or at the limit, whichever is earlier, and never where c = 0 and no limit is set.
abbrev pub end_of : ℕ → ℤ → ℕ → Option ℕ → Option Instant
end_of zero r p None = None
end_of zero r p (Some L) = Some (L ÷ 1)
end_of (suc c) r p None = Some (exit_of (suc c) r p)
end_of (suc c) r p (Some L) = Some (earlier (exit_of (suc c) r p) (L ÷ 1))

abbrev pub window_end : SensedQuestion → Option Instant
window_end s = end_of (c s) (r s) (p s) s.limit
