-- Obeying a one-sided advice (document 02, "Judging a candidate's flight"). s is a sensed question, l a flight in its sense. The flight starts with u, its
-- speed in document 01's frame, which moves with the intruder (`path`, specs/Letters.antt); q is the target in that frame. Both are w × (a speed − vi), so
-- "sensed speed at least the sensed target" says the same in this frame and in upward speeds (`speed_in_plain_numbers`).
use Rattle.std.specs.Prelude.{List, ◌⊎◌, ℕ, ◌*◌, ◌≤◌, ◌<◌, pos, ◌*ℤ◌, nat_abs, ◌≤ℤ◌}
use Rattle.path.specs.declared.SensedQuestion.{SensedQuestion}
use Rattle.path.specs.Letters.{u, q, a, d, e}
use Rattle.flight.specs.declared.Stretch.{Stretch}
use Rattle.flight.specs.Flight.{duration, acceleration_at, speed_at}

-- "before d, acceleration of size at most e; from d on, at every instant, sensed speed at least the sensed target or sensed acceleration at least the
-- strength." At n/m; speeds stand times m.
pub record ObeysAt (s : SensedQuestion) (l : List Stretch) (n m : ℕ) : Type 0 where
  pub delayed : n < d s * m → nat_abs (acceleration_at l n m) ≤ e s
  pub advised : d s * m ≤ n → ((q s *ℤ pos m) ≤ℤ speed_at (u s) l n m) ⊎ (pos (a s) ≤ℤ acceleration_at l n m)

-- at every rational time before the flight's end: "the flight's last instant is tested by neither rule"
abbrev pub Obeys : SensedQuestion → List Stretch → Type 0
Obeys s l = (n m : ℕ) → 1 ≤ m → n < duration l * m → ObeysAt s l n m
