-- How large a flight's speed and height can be at a whole second: after n seconds the speed has changed by at most B × n, B being the largest acceleration. Within
-- the limits these are `most_flight_speed` and `most_flight_height`. Assumes nothing.
use mathlib.Core.Path.{sym, subst}
use mathlib.Core.Bool.{◌&&◌}
use mathlib.Core.List.{List, [], ◌∷◌}
use mathlib.Core.Logic.{⊎_elim}
use Prim.Native.Nat.{ℕ, zero, suc, ◌+◌, ◌*◌, ◌-◌, ◌<◌, ◌≤◌}
use native.Mathlib.Nat.{mul-le-mul_left, mul-le-mul}
use native.Mathlib.Omega.{arith}
use lib.Dec.{T, leb, leb→le}
use lib.Ieee.Fits.{and_l, and_r}
use lib.IntN.{ℤ, pos, neg_ℤ, ◌+ℤ◌, ◌*ℤ◌, nat_abs}
use lib.ListN.{length, get_or}
use Rattle.limits.specs.Limits.{max_flight_acceleration, flight_acceleration_within, min_stretch_seconds, max_flight_seconds, stretch_seconds_within}
use Rattle.integers.proofs.Quotation.{quote}
use Rattle.integers.proofs.Certificates.{by≤, gap≤, ◌⊞◌, ◌⊠◌, 0≤pos, nat≤}
use Rattle.integers.proofs.Laws.{split≤, nat_abs_hi, nat_abs_lo, nat_abs_in}
use Rattle.advisory.specs.declared.Sense.{Sense}
use Rattle.path.specs.inner.Sizes.{max_speed_difference}
use Rattle.question.proofs.WithinLimits.{between}
use Rattle.flight.specs.declared.Stretch.{Stretch}
use Rattle.flight.specs.Flight.{duration, acceleration_at, speed_at, height_at}
use Rattle.flight.specs.FlightLimits.{stretch_within, stretches_within, count_within, flight_within}
use Rattle.flight.specs.SensedFlight.{sensed_flight}
use Rattle.flight.specs.inner.Clamped.{most_flight_speed, most_flight_height, most_gained}
use Rattle.flight.proofs.Steps.{acceleration_within_lem, acceleration_after}
use Rattle.flight.proofs.PlainNumbers.{sensed_size}
use Rattle.flight.proofs.Walk.{first_speed, first_height, next_speed, next_height}

-- no acceleration is larger than B
abbrev pub Accelerates : ℕ → List Stretch → Type 0
Accelerates B [] = Unit {0}
Accelerates B (x ∷ l) = (nat_abs x.acceleration ≤ B) × Accelerates B l

pub acceleration_size : (B : ℕ) (l : List Stretch) → Accelerates B l → (n m : ℕ) → nat_abs (acceleration_at l n m) ≤ B
unfolding acceleration_at
acceleration_size B [] h n m = omega arith
acceleration_size B (x ∷ l) h n m = ⊎_elim
    (λ (i : x.seconds * m ≤ n). subst (λ (z : ℤ). nat_abs z ≤ B) (sym (acceleration_after x l n m i)) (acceleration_size B l h.1 (n - x.seconds * m) m))
    (λ (i : n < x.seconds * m). subst (λ (z : ℤ). nat_abs z ≤ B) (sym (acceleration_within_lem x l n m i)) h.0)
    (split≤ (x.seconds * m) n)

pub sensed_accelerates : (B : ℕ) (w : Sense) (l : List Stretch) → Accelerates B l → Accelerates B (sensed_flight w l)
sensed_accelerates B w [] h = tt
sensed_accelerates B w (x ∷ l) h = (subst (λ (z : ℕ). z ≤ B) (sym (sensed_size w x.acceleration)) h.0, sensed_accelerates B w l h.1)

-- ---- after n seconds; U is no less than the first speed
module _ (B U : ℕ) (v : ℤ) (l : List Stretch) (start : nat_abs v ≤ U) (h : Accelerates B l) where
  pub speed_size : (n : ℕ) → n ≤ duration l → nat_abs (speed_at v l n 1) ≤ U + B * n
  speed_size zero i = subst (λ (z : ℤ). nat_abs z ≤ U + B * 0) (sym (first_speed v l)) (omega arith)
  speed_size (suc n) i =
      let before = speed_size n (omega arith) in
      let g = acceleration_size B l h n 1 in
      subst (λ (z : ℤ). nat_abs z ≤ U + B * suc n) (sym (next_speed v l n i))
      (nat_abs_in (speed_at v l n 1 +ℤ acceleration_at l n 1) (U + B * suc n)
      (by≤ (B ∷ U ∷ n ∷ []) (speed_at v l n 1 ∷ acceleration_at l n 1 ∷ []) (gap≤ (nat_abs_lo (speed_at v l n 1) (U + B * n) before) ⊞ gap≤ (nat_abs_lo (acceleration_at l n 1) B g)) (λ w. search quote depth 20) tt)
      (by≤ (B ∷ U ∷ n ∷ []) (speed_at v l n 1 ∷ acceleration_at l n 1 ∷ []) (gap≤ (nat_abs_hi (speed_at v l n 1) (U + B * n) before) ⊞ gap≤ (nat_abs_hi (acceleration_at l n 1) B g)) (λ w. search quote depth 20) tt))

  pub height_size : (n : ℕ) → n ≤ duration l → nat_abs (height_at v l n 1) ≤ 2 * U * n + B * n * n
  height_size zero i = subst (λ (z : ℤ). nat_abs z ≤ 2 * U * 0 + B * 0 * 0) (sym (first_height v l)) (omega arith)
  height_size (suc n) i =
      let before = height_size n (omega arith) in
      let s = speed_size n (omega arith) in
      let g = acceleration_size B l h n 1 in
      subst (λ (z : ℤ). nat_abs z ≤ 2 * U * suc n + B * suc n * suc n) (sym (next_height v l n i))
      (nat_abs_in (height_at v l n 1 +ℤ pos 2 *ℤ speed_at v l n 1 +ℤ acceleration_at l n 1) (2 * U * suc n + B * suc n * suc n)
      (by≤ (B ∷ U ∷ n ∷ []) (height_at v l n 1 ∷ speed_at v l n 1 ∷ acceleration_at l n 1 ∷ [])
      (gap≤ (nat_abs_lo (height_at v l n 1) (2 * U * n + B * n * n) before) ⊞ 0≤pos 2 ⊠ gap≤ (nat_abs_lo (speed_at v l n 1) (U + B * n) s) ⊞ gap≤ (nat_abs_lo (acceleration_at l n 1) B g)) (λ w. search quote depth 20) tt)
      (by≤ (B ∷ U ∷ n ∷ []) (height_at v l n 1 ∷ speed_at v l n 1 ∷ acceleration_at l n 1 ∷ [])
      (gap≤ (nat_abs_hi (height_at v l n 1) (2 * U * n + B * n * n) before) ⊞ 0≤pos 2 ⊠ gap≤ (nat_abs_hi (speed_at v l n 1) (U + B * n) s) ⊞ gap≤ (nat_abs_hi (acceleration_at l n 1) B g)) (λ w. search quote depth 20) tt))

-- the same with the longest flight for n
grown : (U B n N : ℕ) → n ≤ N → U + B * n ≤ U + B * N
grown U B n N h = omega (arith, mul-le-mul_left B h)

grown_twice : (U B n N : ℕ) → n ≤ N → 2 * U * n + B * n * n ≤ 2 * U * N + B * N * N
grown_twice U B n N h = omega (arith, mul-le-mul_left (2 * U) h, mul-le-mul (mul-le-mul_left B h) h)

-- ---- a flight within the limits
pub record StretchSizes (x : Stretch) : Type 0 where
  pub acceleration : nat_abs x.acceleration ≤ max_flight_acceleration
  pub shortest : min_stretch_seconds ≤ x.seconds
  pub longest : x.seconds ≤ max_flight_seconds

pub stretch_sizes : (x : Stretch) → T (stretch_within x) → StretchSizes x
stretch_sizes x t =
    let g = between (neg_ℤ (pos max_flight_acceleration)) (pos max_flight_acceleration) x.acceleration (and_l (flight_acceleration_within x.acceleration) (stretch_seconds_within (pos x.seconds)) t) in
    let n = between (pos min_stretch_seconds) (pos max_flight_seconds) (pos x.seconds) (and_r (flight_acceleration_within x.acceleration) (stretch_seconds_within (pos x.seconds)) t) in
    record { acceleration = nat_abs_in x.acceleration max_flight_acceleration g.from g.to; shortest = nat≤ n.from; longest = nat≤ n.to }

pub one_stretch : (l : List Stretch) → T (stretches_within l) → (i : ℕ) (z : Stretch) → i < length l → StretchSizes (get_or l i z)
one_stretch [] t i z h = absurd (omega arith)
one_stretch (x ∷ l) t zero z h = stretch_sizes x (and_l (stretch_within x) (stretches_within l) t)
one_stretch (x ∷ l) t (suc i) z h = one_stretch l (and_r (stretch_within x) (stretches_within l) t) i z (omega arith)

all_accelerate : (l : List Stretch) → T (stretches_within l) → Accelerates max_flight_acceleration l
all_accelerate [] t = tt
all_accelerate (x ∷ l) t = ((stretch_sizes x (and_l (stretch_within x) (stretches_within l) t)).acceleration, all_accelerate l (and_r (stretch_within x) (stretches_within l) t))

module _ (l : List Stretch) (t : T (flight_within l)) where
  pub each_within : T (stretches_within l)
  unfolding flight_within
  each_within = and_r (count_within l) (stretches_within l) (and_l (count_within l && stretches_within l) (leb (duration l) max_flight_seconds) t)

  pub flown_within : duration l ≤ max_flight_seconds
  unfolding flight_within
  flown_within = leb→le (duration l) max_flight_seconds (and_r (count_within l && stretches_within l) (leb (duration l) max_flight_seconds) t)

  pub within_accelerates : Accelerates max_flight_acceleration l
  within_accelerates = all_accelerate l each_within

-- ---- in numbers: of a flight in its sense
module _ (v : ℤ) (l : List Stretch) (start : nat_abs v ≤ max_speed_difference) (h : Accelerates max_flight_acceleration l) (short : duration l ≤ max_flight_seconds) (n : ℕ) (i : n ≤ duration l) where
  pub flight_speed : nat_abs (speed_at v l n 1) ≤ most_flight_speed
  flight_speed = omega (arith, speed_size max_flight_acceleration max_speed_difference v l start h n i, grown max_speed_difference max_flight_acceleration n max_flight_seconds (omega arith))

  pub flight_height : nat_abs (height_at v l n 1) ≤ most_flight_height
  flight_height = omega (arith, height_size max_flight_acceleration max_speed_difference v l start h n i, grown_twice max_speed_difference max_flight_acceleration n max_flight_seconds (omega arith))

  pub flight_gains : 2 * nat_abs (speed_at v l n 1) + nat_abs (acceleration_at l n 1) < most_gained
  flight_gains = omega (arith, flight_speed, acceleration_size max_flight_acceleration l h n 1)
