-- Being inside the puck: "inside the puck, edges included, at a rational time up to its end, limit or not, and if so the least whole number of seconds n with
-- such a time at n or later but before n + 1" (document 02). s is a sensed question, l a flight in its sense. Both heights are measured from the level that
-- moves with the intruder, so their difference is that of the aircraft (`height_in_plain_numbers`).
use Rattle.std.specs.Prelude.{List, ℕ, suc, ◌*◌, ◌≤◌, ◌<◌, ℤ, pos, ◌-ℤ◌, ◌*ℤ◌, nat_abs, None, Option, Some}
use Rattle.path.specs.declared.SensedQuestion.{SensedQuestion}
use Rattle.path.specs.Letters.{p, k, wh, u}
use Rattle.path.specs.Window.{InTime, distance_at}
use Rattle.flight.specs.declared.Stretch.{Stretch}
use Rattle.flight.specs.Flight.{duration, height_at}

-- w × h less the flight's sensed height, at n/m, times 2 × m²
abbrev pub height_apart : SensedQuestion → List Stretch → ℕ → ℕ → ℤ
height_apart s l n m = pos 2 *ℤ pos m *ℤ pos m *ℤ wh s -ℤ height_at (u s) l n m

-- inside at n/m, "edges included": |r − c × t| ≤ p, times m, and a difference in height of at most k, times 2 × m². The limit plays no part.
pub record InsidePuck (s : SensedQuestion) (l : List Stretch) (n m : ℕ) : Type 0 where
  pub near : nat_abs (distance_at s n m) ≤ p s * m
  pub level : nat_abs (height_apart s l n m) ≤ 2 * m * m * k s

-- "at a rational time up to its end": n/m is no later than the flight's end, which counts
pub record InsideTime (s : SensedQuestion) (l : List Stretch) (n m : ℕ) : Type 0 where
  pub divisor : 1 ≤ m
  pub flown : n ≤ duration l * m
  pub inside : InsidePuck s l n m

-- "such a time at n or later but before n + 1"
pub record InsideDuring (s : SensedQuestion) (l : List Stretch) (n : ℕ) : Type 0 where
  pub i : ℕ
  pub m : ℕ
  pub time : InsideTime s l i m
  pub from : n * m ≤ i
  pub to : i < suc n * m

-- "the least whole number of seconds n with such a time"
pub record FirstSecond (s : SensedQuestion) (l : List Stretch) (n : ℕ) : Type 0 where
  pub inside : InsideDuring s l n
  pub least : (j : ℕ) → j < n → ¬ InsideDuring s l j

-- what it is for an answer to be right: never inside, or first inside in the second from n to n + 1
abbrev pub RightEntry : SensedQuestion → List Stretch → Option ℕ → Type 0
RightEntry s l None = (n m : ℕ) → ¬ InsideTime s l n m
RightEntry s l (Some n) = FirstSecond s l n

-- "no obeying flight is inside the puck at a rational time up to its end and the limit": what is to be proved of one
abbrev pub NeverInside : SensedQuestion → List Stretch → Type 0
NeverInside s l = (n m : ℕ) → InTime s.limit n m → ¬ InsideTime s l n m
