-- Speed and height once more in upward numbers, as they are handed in: v and vi are the vertical speeds of ownship and intruder, h is the intruder's height
-- above the ownship, l a flight with upward accelerations. That these say what Obeying.antt and Inside.antt say is proved (`proofs/PlainNumbers.antt`).
use Rattle.std.specs.Prelude.{List, ℕ, ℤ, pos, ◌+ℤ◌, ◌-ℤ◌, ◌*ℤ◌, ◌≤ℤ◌}
use Rattle.advisory.specs.declared.Sense.{Sense}
use Rattle.advisory.specs.Sign.{sensed}
use Rattle.flight.specs.declared.Stretch.{Stretch}
use Rattle.flight.specs.Flight.{speed_at, height_at}

-- "sensed speed at least the sensed target": w × target ≤ w × speed, times m
abbrev pub SpeedReached : Sense → ℤ → ℤ → List Stretch → ℕ → ℕ → Type 0
SpeedReached w target v l n m = (sensed w target *ℤ pos m) ≤ℤ sensed w (speed_at v l n m)

-- the intruder at h + vi × t, less the flight's height, times 2 × m²
abbrev pub intruder_above : ℤ → ℤ → ℤ → List Stretch → ℕ → ℕ → ℤ
intruder_above h vi v l n m = pos 2 *ℤ pos m *ℤ pos m *ℤ h +ℤ pos 2 *ℤ vi *ℤ pos n *ℤ pos m -ℤ height_at v l n m
