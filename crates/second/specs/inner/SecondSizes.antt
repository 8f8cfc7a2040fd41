-- Definitions that only inner contracts use; an instructor need not read them.
-- The sizes of a flight's motion at a whole second, and those that follow from them: what keeps the tests of a second within 64 bits.
use Rattle.std.specs.Prelude.{◌≤◌, ℤ, nat_abs}
use Rattle.limits.specs.Limits.{max_flight_acceleration}
use Rattle.flight.specs.inner.Clamped.{most_flight_speed, most_flight_height, most_gained}
use Rattle.second.specs.declared.Motion.{Motion}

pub record MotionSizes (motion : Motion) : Type 0 where
  pub height_hi : nat_abs motion.height ≤ most_flight_height
  pub speed_hi : nat_abs motion.speed ≤ most_flight_speed
  pub acceleration_hi : nat_abs motion.acceleration ≤ max_flight_acceleration

pub record ApproachSizes (edge speed acceleration : ℤ) : Type 0 where
  pub edge_hi : nat_abs edge ≤ most_gained
  pub speed_hi : nat_abs speed ≤ most_flight_speed
  pub acceleration_hi : nat_abs acceleration ≤ max_flight_acceleration
