-- What is known of numbers that 18 does not refuse: the flight in its sense is short and slow, and so its motion at each second is of the sizes that a second's
-- tests ask for. Assumes nothing.
use mathlib.Core.Path.{◌≡◌, sym, subst}
use mathlib.Core.Bool.{true}
use mathlib.Core.List.{List}
use Prim.Native.Nat.{ℕ, ◌≤◌}
use native.Mathlib.Omega.{arith}
use lib.Dec.{T}
use lib.Ieee.Fits.{and_r}
use lib.IntN.{ℤ}
use Rattle.std.proofs.Flags.{T_true}
use Rattle.limits.specs.Limits.{max_flight_acceleration, max_flight_seconds}
use Rattle.integers.proofs.Laws.{nat_abs_in}
use Rattle.advisory.specs.declared.Sense.{Sense}
use Rattle.path.specs.declared.SensedQuestion.{SensedQuestion}
use Rattle.path.specs.Letters.{u}
use Rattle.path.specs.inner.Sizes.{Sizes, max_speed_difference}
use Rattle.flight.specs.declared.Stretch.{Stretch}
use Rattle.flight.specs.Flight.{duration}
use Rattle.flight.specs.FlightLimits.{stretches_within, flight_within}
use Rattle.flight.specs.HandedIn.{flight_of, paired, numbers_within}
use Rattle.flight.proofs.PlainNumbers.{sensed_duration}
use Rattle.flight.proofs.FlightSizes.{Accelerates, acceleration_size, flight_speed, flight_height, sensed_accelerates, each_within, flown_within, within_accelerates}
use Rattle.second.specs.declared.Motion.{Motion}
use Rattle.second.specs.inner.SecondSizes.{MotionSizes}
use Rattle.flown.specs.inner.Places.{flown, motion_at, LeftAt}

module _ (l : List ℤ) (e : numbers_within l ≡ true) where
  within : T (flight_within (flight_of l))
  within = and_r (paired l) (flight_within (flight_of l)) (subst T (sym e) tt)

  pub all_within : stretches_within (flight_of l) ≡ true
  all_within = T_true _ (each_within (flight_of l) within)

  module _ (w : Sense) where
    slow : Accelerates max_flight_acceleration (flown w l)
    slow = sensed_accelerates max_flight_acceleration w (flight_of l) (within_accelerates (flight_of l) within)

    short : duration (flown w l) ≤ max_flight_seconds
    short = omega (arith, sensed_duration w (flight_of l), flown_within (flight_of l) within)

    module _ {n : ℕ} {rest : List Stretch} (h : LeftAt (flown w l) n rest) where
      pub early : n ≤ max_flight_seconds
      early = omega (arith, short, h.time)

      pub motion_sizes : (s : SensedQuestion) → Sizes s → {motion : Motion} → motion ≡ motion_at s (flown w l) n → MotionSizes motion
      motion_sizes s z is =
          let start = nat_abs_in (u s) max_speed_difference z.u_lo z.u_hi in
          let flying : n ≤ duration (flown w l) = omega (arith, h.time) in
          subst MotionSizes (sym is)
          (record {
            height_hi = flight_height (u s) (flown w l) start slow short n flying;
            speed_hi = flight_speed (u s) (flown w l) start slow short n flying;
            acceleration_hi = acceleration_size max_flight_acceleration (flown w l) slow n 1;
          })
