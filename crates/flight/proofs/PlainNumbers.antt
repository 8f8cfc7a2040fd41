-- What Obeying.antt and Inside.antt say in the frame that moves with the intruder, they say in upward numbers: of a flight as it is handed in, the sensed speed
-- is w × (speed − vi), the sensed height w × (height − vi × t). Assumes nothing.
use mathlib.Core.Path.{◌≡◌, refl, sym, ap, ◌∙◌, subst}
use mathlib.Core.List.{List, [], ◌∷◌}
use mathlib.Core.Logic.{⊎_elim, ◌↔◌}
use Prim.Native.Nat.{ℕ, zero, suc, ◌+◌, ◌*◌, ◌-◌, ◌<◌, ◌≤◌}
use native.Mathlib.Omega.{arith}
use lib.IntN.{ℤ, pos, negsuc, neg_ℤ, ◌-ℤ◌, ◌*ℤ◌, nat_abs}
use lib.Signed.{◌≤ℤ◌}
use Rattle.integers.proofs.Quotation.{quote}
use Rattle.integers.proofs.Certificates.{ring, modulo, by≤, gap≤}
use Rattle.integers.proofs.Laws.{split≤}
use Rattle.advisory.specs.declared.Sense.{Sense}
use Rattle.advisory.specs.declared.Sense.TheVariants.{Climb, Descend}
use Rattle.advisory.specs.Sign.{sign, sensed}
use Rattle.path.specs.Letters.{u, q}
use Rattle.question.specs.declared.Encounter.{Encounter}
use Rattle.question.specs.declared.Settings.{Settings}
use Rattle.question.specs.declared.Question.{Question}
use Rattle.question.specs.Refusals.{sense_of}
use Rattle.sensed.specs.Sensed.{sensed_question}
use Rattle.flight.specs.declared.Stretch.{Stretch}
use Rattle.flight.specs.Flight.{duration, acceleration_at, speed_after, speed_at, height_at}
use Rattle.flight.specs.SensedFlight.{sensed_stretch, sensed_flight}
use Rattle.flight.specs.Inside.{height_apart}
use Rattle.flight.specs.PlainNumbers.{SpeedReached, intruder_above}
use Rattle.flight.proofs.Steps.{acceleration_within_lem, acceleration_after, speed_within_lem, speed_after_lem, height_within_lem, height_after}

-- w × z is as large as z
pub negated_size : (z : ℤ) → nat_abs (neg_ℤ z) ≡ nat_abs z
negated_size (pos zero) = refl
negated_size (pos (suc n)) = refl
negated_size (negsuc n) = refl

pub sensed_size : (w : Sense) (z : ℤ) → nat_abs (sensed w z) ≡ nat_abs z
sensed_size Climb z = ap nat_abs {x = pos 1 *ℤ z} {y = z} (ring [] (z ∷ []) (λ v. search quote depth 20) tt)
sensed_size Descend z = ap nat_abs {x = negsuc 0 *ℤ z} {y = neg_ℤ z} (ring [] (z ∷ []) (λ v. search quote depth 20) tt) ∙ negated_size z

-- ---- a flight in the sense and in the frame of an intruder with the speed vi
pub sensed_duration : (w : Sense) (l : List Stretch) → duration (sensed_flight w l) ≡ duration l
sensed_duration w [] = refl
sensed_duration w (x ∷ l) = ap (λ (t : ℕ). x.seconds + t) (sensed_duration w l)

module _ (w : Sense) where
  pub sensed_acceleration : (l : List Stretch) (n m : ℕ) → acceleration_at (sensed_flight w l) n m ≡ sensed w (acceleration_at l n m)
  unfolding acceleration_at
  sensed_acceleration [] n m = ring [] (sign w ∷ []) (λ v. search quote depth 20) tt
  sensed_acceleration (x ∷ l) n m = ⊎_elim
      (λ (h : x.seconds * m ≤ n). acceleration_after (sensed_stretch w x) (sensed_flight w l) n m h ∙ sensed_acceleration l (n - x.seconds * m) m ∙ ap (sensed w) (sym (acceleration_after x l n m h)))
      (λ (h : n < x.seconds * m). acceleration_within_lem (sensed_stretch w x) (sensed_flight w l) n m h ∙ ap (sensed w) (sym (acceleration_within_lem x l n m h)))
      (split≤ (x.seconds * m) n)

  module _ (vi : ℤ) where
    next_speed : (v : ℤ) (x : Stretch) → speed_after (sensed w (v -ℤ vi)) (sensed_stretch w x) ≡ sensed w (speed_after v x -ℤ vi)
    next_speed v x = ring (x.seconds ∷ []) (sign w ∷ v ∷ vi ∷ x.acceleration ∷ []) (λ v. search quote depth 20) tt

    pub sensed_speed : (v : ℤ) (l : List Stretch) (n m : ℕ) → speed_at (sensed w (v -ℤ vi)) (sensed_flight w l) n m ≡ sensed w (speed_at v l n m -ℤ vi *ℤ pos m)
    unfolding speed_at
    sensed_speed v [] n m = ring (m ∷ []) (sign w ∷ v ∷ vi ∷ []) (λ v. search quote depth 20) tt
    sensed_speed v (x ∷ l) n m = ⊎_elim
        (λ (h : x.seconds * m ≤ n).
        speed_after_lem (sensed_stretch w x) (sensed_flight w l) n m (sensed w (v -ℤ vi)) h
        ∙ ap (λ (z : ℤ). speed_at z (sensed_flight w l) (n - x.seconds * m) m) (next_speed v x)
        ∙ sensed_speed (speed_after v x) l (n - x.seconds * m) m
        ∙ ap (λ (z : ℤ). sensed w (z -ℤ vi *ℤ pos m)) (sym (speed_after_lem x l n m v h)))
        (λ (h : n < x.seconds * m).
        speed_within_lem (sensed_stretch w x) (sensed_flight w l) n m (sensed w (v -ℤ vi)) (omega arith)
        ∙ ring (n ∷ m ∷ []) (sign w ∷ v ∷ vi ∷ x.acceleration ∷ []) (λ v. search quote depth 20) tt
        ∙ ap (λ (z : ℤ). sensed w (z -ℤ vi *ℤ pos m)) (sym (speed_within_lem x l n m v (omega arith))))
        (split≤ (x.seconds * m) n)

    pub sensed_height : (v : ℤ) (l : List Stretch) (n m : ℕ) → height_at (sensed w (v -ℤ vi)) (sensed_flight w l) n m ≡ sensed w (height_at v l n m -ℤ pos 2 *ℤ vi *ℤ pos n *ℤ pos m)
    unfolding height_at
    sensed_height v [] n m = ring (n ∷ m ∷ []) (sign w ∷ v ∷ vi ∷ []) (λ v. search quote depth 20) tt
    sensed_height v (x ∷ l) n m = ⊎_elim
        (λ (h : x.seconds * m ≤ n).
        let i = n - x.seconds * m in
        let rest = ap (λ (z : ℤ). height_at z (sensed_flight w l) i m) (next_speed v x) ∙ sensed_height (speed_after v x) l i m in
        height_after (sensed_stretch w x) (sensed_flight w l) n m (sensed w (v -ℤ vi)) h
        ∙ modulo (pos 1) rest (modulo (sign w *ℤ pos 2 *ℤ vi *ℤ pos m) (ap pos {x = n} {y = x.seconds * m + i} (omega arith))
        (ring (x.seconds ∷ n ∷ m ∷ (n - x.seconds * m) ∷ [])
        (sign w ∷ v ∷ vi ∷ x.acceleration ∷ height_at (speed_after (sensed w (v -ℤ vi)) (sensed_stretch w x)) (sensed_flight w l) (n - x.seconds * m) m ∷ height_at (speed_after v x) l (n - x.seconds * m) m ∷ []) (λ v. search quote depth 20) tt))
        ∙ ap (λ (z : ℤ). sensed w (z -ℤ pos 2 *ℤ vi *ℤ pos n *ℤ pos m)) (sym (height_after x l n m v h)))
        (λ (h : n < x.seconds * m).
        height_within_lem (sensed_stretch w x) (sensed_flight w l) n m (sensed w (v -ℤ vi)) (omega arith)
        ∙ ring (n ∷ m ∷ []) (sign w ∷ v ∷ vi ∷ x.acceleration ∷ []) (λ v. search quote depth 20) tt
        ∙ ap (λ (z : ℤ). sensed w (z -ℤ pos 2 *ℤ vi *ℤ pos n *ℤ pos m)) (sym (height_within_lem x l n m v (omega arith))))
        (split≤ (x.seconds * m) n)

-- ---- of a question
module _ (x : Encounter) (y : Settings) (z : Question) (l : List Stretch) (n m : ℕ) where
  pub speed_in_plain_numbers : ((q (sensed_question x y z) *ℤ pos m) ≤ℤ speed_at (u (sensed_question x y z)) (sensed_flight (sense_of z) l) n m) ↔ SpeedReached (sense_of z) z.target x.speed l n m
  unfolding sensed_question
  speed_in_plain_numbers =
      let w = sense_of z in
      let e = sensed_speed w x.intruder_speed x.speed l n m in (
        λ h. by≤ (m ∷ []) (sign (sense_of z) ∷ z.target ∷ x.intruder_speed ∷ speed_at x.speed l n m ∷ []) (gap≤ (subst (λ (t : ℤ). (sensed w (z.target -ℤ x.intruder_speed) *ℤ pos m) ≤ℤ t) e h)) (λ v. search quote depth 20) tt,
        λ h. subst (λ (t : ℤ). (sensed w (z.target -ℤ x.intruder_speed) *ℤ pos m) ≤ℤ t) (sym e)
            (by≤ (m ∷ []) (sign (sense_of z) ∷ z.target ∷ x.intruder_speed ∷ speed_at x.speed l n m ∷ []) (gap≤ h) (λ v. search quote depth 20) tt),
      )

  pub height_in_plain_numbers : nat_abs (height_apart (sensed_question x y z) (sensed_flight (sense_of z) l) n m) ≡ nat_abs (intruder_above x.height x.intruder_speed x.speed l n m)
  unfolding sensed_question
  height_in_plain_numbers =
      let w = sense_of z in
      let e = sensed_height w x.intruder_speed x.speed l n m in
      let apart = intruder_above x.height x.intruder_speed x.speed l n m in
      ap nat_abs {y = sensed w apart} (ap (λ (t : ℤ). pos 2 *ℤ pos m *ℤ pos m *ℤ sensed w x.height -ℤ t) e
      ∙ ring (n ∷ m ∷ []) (sign (sense_of z) ∷ x.height ∷ x.intruder_speed ∷ height_at x.speed l n m ∷ []) (λ v. search quote depth 20) tt)
      ∙ sensed_size w apart
