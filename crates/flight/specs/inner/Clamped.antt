-- Definitions that only inner contracts use; an instructor need not read them.
-- Sizes of a flight, and what keeps the test of a second within 64 bits: A × y² may exceed them, but within a second the quadratic gains less than L either
-- way, so A may be brought to L at most and −L at least (`proofs/Clamped.antt`).
use Rattle.std.specs.Prelude.{ℕ, suc, ◌+◌, ◌*◌, ℤ, pos, neg_ℤ}
use Rattle.integers.specs.Extremes.{maxℤ, minℤ}
use Rattle.limits.specs.Limits.{max_flight_acceleration, max_flight_seconds}
use Rattle.path.specs.inner.Sizes.{max_speed_difference}

-- the sensed speed of a flight, and twice its sensed height, at a whole second
abbrev pub most_flight_speed : ℕ
most_flight_speed = max_speed_difference + max_flight_acceleration * max_flight_seconds

abbrev pub most_flight_height : ℕ
most_flight_height = 2 * max_speed_difference * max_flight_seconds + max_flight_acceleration * max_flight_seconds * max_flight_seconds

-- above 2 × |v| + |g|
abbrev pub most_gained : ℕ
most_gained = suc (2 * most_flight_speed + max_flight_acceleration)

abbrev pub clamped : ℕ → ℤ → ℤ
clamped L A = maxℤ (neg_ℤ (pos L)) (minℤ A (pos L))
