-- The bounds of a second's numbers, as rules for `search`.
use mathlib.Core.Path.{◌≡◌, ap, ap₂}
use mathlib.Core.Bool.{Bool, true, ◌&&◌, ◌||◌}
use Prim.Native.Nat.{ℕ, ◌≤◌}
use native.Mathlib.Omega.{arith}
use lib.Dec.{T}
use lib.Ieee.Fits.{and_l, and_r}
use lib.IntN.{ℤ, nat_abs}
use mir.Syntax.{w64}
use mir.Val.{to_z}
use Rattle.limits.specs.Limits.{max_strength, max_flight_seconds, max_flight_acceleration}
use Rattle.integers.proofs.Machine.{Reading, Plain, bounded_word, bounded_absolute}
use Rattle.path.specs.declared.SensedQuestion.{SensedQuestion}
use Rattle.path.specs.declared.Side.TheVariants.{Lower}
use Rattle.path.specs.Letters.{a}
use Rattle.path.specs.Window.{distance_at}
use Rattle.path.specs.inner.Sizes.{Sizes, InReach}
use Rattle.path.proofs.Reach.{lower_in_upper}
use Rattle.window.proofs.Fields.{most_distance, distance_size, read_radius}
use Rattle.conflict.proofs.Fields.{numbers}
use Rattle.flight.specs.inner.Clamped.{most_flight_speed, most_flight_height, most_gained}
use Rattle.second.specs.declared.Motion.{Motion}
use Rattle.second.specs.inner.SecondSizes.{MotionSizes, ApproachSizes}

-- ---- a question
abbrev pub read_strength : (s : SensedQuestion) → Sizes s → Reading (to_z w64 s.strength)
read_strength s z = bounded_word (a s) max_strength z.a_hi

-- ---- a whole second, and r − c × t at it
pub second_reach : (n : ℕ) → n ≤ max_flight_seconds → InReach Lower n 1
second_reach n h = record { n_hi = omega arith; m_lo = omega arith; m_hi = omega arith }

abbrev pub read_ahead : (s : SensedQuestion) (n : ℕ) → Sizes s → n ≤ max_flight_seconds → Reading (distance_at s n 1)
read_ahead s n z h = bounded_absolute (distance_at s n 1) most_distance (distance_size s n 1 z (lower_in_upper (second_reach n h)))

-- ---- a motion
module _ (motion : Motion) (z : MotionSizes motion) where
  abbrev pub read_height : Reading motion.height
  read_height = bounded_absolute motion.height most_flight_height z.height_hi

  abbrev pub read_speed : Reading motion.speed
  read_speed = bounded_absolute motion.speed most_flight_speed z.speed_hi

  abbrev pub read_acceleration : Reading motion.acceleration
  read_acceleration = bounded_absolute motion.acceleration max_flight_acceleration z.acceleration_hi

-- ---- what is to be reached
module _ (edge speed acceleration : ℤ) (z : ApproachSizes edge speed acceleration) where
  abbrev pub read_approach_edge : Reading edge
  read_approach_edge = bounded_absolute edge most_gained z.edge_hi

  abbrev pub read_approach_speed : Reading speed
  read_approach_speed = bounded_absolute speed most_flight_speed z.speed_hi

  abbrev pub read_approach_acceleration : Reading acceleration
  read_approach_acceleration = bounded_absolute acceleration max_flight_acceleration z.acceleration_hi

-- ---- tests that are joined, and a call's answer to one
abbrev pub known : {b t : Bool} → b ≡ t → Plain b
known {b} {t} e = record { value = t; guard = true; is = λ _. e }

module _ {s t : Bool} (x : Plain s) (y : Plain t) where
  pub and_is : T (x.guard && y.guard) → (s && t) ≡ (x.value && y.value)
  and_is g = ap₂ ◌&&◌ (x.is (and_l x.guard y.guard g)) (y.is (and_r x.guard y.guard g))

  pub or_is : T (x.guard && y.guard) → (s || t) ≡ (x.value || y.value)
  or_is g = ap₂ ◌||◌ (x.is (and_l x.guard y.guard g)) (y.is (and_r x.guard y.guard g))

abbrev pub plain_and : {s t : Bool} → Plain s → Plain t → Plain (s && t)
plain_and x y = record { value = x.value && y.value; guard = x.guard && y.guard; is = and_is x y }

abbrev pub plain_or : {s t : Bool} → Plain s → Plain t → Plain (s || t)
plain_or x y = record { value = x.value || y.value; guard = x.guard && y.guard; is = or_is x y }

-- ---- an absolute value
pub absolute_is : {t : ℤ} (x : Reading t) → T x.guard → nat_abs t ≡ nat_abs x.number
absolute_is x g = ap nat_abs (x.is g)

abbrev pub plain_absolute : {t : ℤ} → Reading t → Plain (nat_abs t)
plain_absolute x = record { value = nat_abs x.number; guard = x.guard; is = absolute_is x }

-- `search second_terms` finds the reading of a machine term, where the sizes of its question, motion or approach are in scope
pub ruleset second_terms = (
  numbers,
  read_radius,
  read_strength,
  read_height,
  read_speed,
  read_acceleration,
  read_approach_edge,
  read_approach_speed,
  read_approach_acceleration,
  plain_and,
  plain_or,
  plain_absolute,
)
