-- The places of a walk over a flight: where a stretch begins, and a second later. Assumes nothing.
use mathlib.Core.Path.{◌≡◌, refl, sym, ap, ◌∙◌, subst}
use mathlib.Core.Bool.{true, ◌&&◌}
use mathlib.Core.List.{List, [], ◌∷◌}
use Prim.Native.Nat.{ℕ, suc, ◌+◌, ◌-◌, ◌<◌, ◌≤◌}
use native.Mathlib.Omega.{arith}
use lib.Dec.{T}
use lib.Ieee.Fits.{and_l, and_r}
use lib.IntN.{ℤ, pos}
use Rattle.std.proofs.Flags.{T_true}
use Rattle.limits.specs.Limits.{max_flight_seconds}
use Rattle.advisory.specs.declared.Sense.{Sense}
use Rattle.path.specs.declared.SensedQuestion.{SensedQuestion}
use Rattle.path.specs.Letters.{u}
use Rattle.flight.specs.declared.Stretch.{Stretch}
use Rattle.flight.specs.Flight.{duration, acceleration_at, speed_at, height_at}
use Rattle.flight.specs.FlightLimits.{stretch_within, stretches_within}
use Rattle.flight.specs.HandedIn.{flight_of, numbers_within}
use Rattle.flight.specs.SensedFlight.{sensed_stretch, sensed_flight}
use Rattle.flight.proofs.FlightSizes.{stretch_sizes}
use Rattle.flight.proofs.Walk.{first_speed, first_height, next_speed, next_height}
use Rattle.stretches.specs.declared.Stretches.{Stretches}
use Rattle.second.specs.declared.Motion.{Motion}
use Rattle.second.specs.inner.SecondSizes.{MotionSizes}
use Rattle.flown.specs.declared.Place.{Place}
use Rattle.flown.specs.inner.Places.{flown, motion_at, motion_after, LeftAt, BeginsAt, PlaceAt}
use Rattle.flown.proofs.LeftAt.{stretch, all_left, stretch_over, at_end, force_at_end, force_now, a_second_less}
use Rattle.flown.proofs.WithinLimits.{all_within}

abbrev pub moving : ℤ → ℤ → ℤ → Motion
moving y v g = record { height = y; speed = v; acceleration = g }

pub same_motion : {y y' v v' g g' : ℤ} → y ≡ y' → v ≡ v' → g ≡ g' → moving y v g ≡ moving y' v' g'
same_motion e f h = cc

-- the place at the second n, with the motion there, `left` seconds before the end of its stretch
abbrev pub placed : (n : ℕ) (motion : Motion) → n ≤ max_flight_seconds → MotionSizes motion → ℕ → Stretches → Place
placed n motion e z left later = record { second = record { n = n; motion = motion; early = e; sizes = z }; left = left; later = later }

module _ (s : SensedQuestion) (w : Sense) (l : List ℤ) where
  -- ---- at the start
  pub begins : numbers_within l ≡ true → BeginsAt s w l 0 (moving (pos 0) (u s) (pos 0)) l
  begins e = record {
    left = all_left (flown w l);
    within = all_within l e;
    height = sym (first_height (u s) (flown w l));
    speed = sym (first_speed (u s) (flown w l));
  }

  -- ---- the stretch that begins at n, and those after it
  pub record Begun (n : ℕ) (later : List ℤ) (x : Stretch) : Type 0 where
    pub left : LeftAt (flown w l) n (x ∷ flown w later)
    pub going : x.seconds ≡ 0 → flight_of later ≡ []
    pub within : stretches_within (flight_of later) ≡ true
    pub force : x.acceleration ≡ acceleration_at (flown w l) n 1

  module _ {n : ℕ} {motion : Motion} {before later : List ℤ} (h : BeginsAt s w l n motion before) where
    pub next_begun : {x y : Stretch} → flight_of before ≡ x ∷ flight_of later → y ≡ sensed_stretch w x → Begun n later y
    next_begun {x} {y} e is = subst (Begun n later) (sym is) (record {
      left = left;
      going = λ z. absurd (omega (arith, lasting));
      within = T_true _ (and_r (stretch_within x) (stretches_within (flight_of later)) both);
      force = sym (force_now left lasting);
    })
      where
        both : T (stretch_within x && stretches_within (flight_of later))
        both = subst T (sym (sym (ap stretches_within e) ∙ h.within)) tt

        lasting : 0 < x.seconds
        lasting = (stretch_sizes x (and_l (stretch_within x) (stretches_within (flight_of later)) both)).shortest

        left : LeftAt (flown w l) n (sensed_stretch w x ∷ flown w later)
        left = subst (LeftAt (flown w l) n) (ap (sensed_flight w) e) h.left

    -- at the flight's end: nothing of a stretch without acceleration
    pub none_begun : flight_of before ≡ [] → flight_of later ≡ [] → Begun n later (stretch (pos 0) 0)
    none_begun e f = record {
      left = subst (λ (r : List Stretch). LeftAt (flown w l) n (stretch (pos 0) 0 ∷ sensed_flight w r)) (sym f) (at_end ended);
      going = λ z. f;
      within = ap stretches_within f;
      force = sym (force_at_end ended);
    }
      where
        ended : LeftAt (flown w l) n []
        ended = subst (LeftAt (flown w l) n) (ap (sensed_flight w) e) h.left

  -- and its place
  pub begun_motion : {n : ℕ} {motion : Motion} {before later : List ℤ} {x : Stretch} → BeginsAt s w l n motion before → Begun n later x
      → {y v g : ℤ} → y ≡ motion.height → v ≡ motion.speed → g ≡ x.acceleration → moving y v g ≡ motion_at s (flown w l) n
  begun_motion h b i j k = same_motion (i ∙ h.height) (j ∙ h.speed) (k ∙ b.force)

  pub begun_place : {x : Stretch} {place : Place} → Begun place.second.n place.later.0.now x → place.left ≡ x.seconds
      → place.second.motion ≡ motion_at s (flown w l) place.second.n → PlaceAt s w l place
  begun_place {x} {place} b lasting is = record {
    left = subst (λ (g : ℤ). LeftAt (flown w l) place.second.n (stretch g place.left ∷ flown w place.later.0.now)) (b.force ∙ sym (ap (λ (m : Motion). m.acceleration) is))
        (subst (λ (t : ℕ). LeftAt (flown w l) place.second.n (stretch x.acceleration t ∷ flown w place.later.0.now)) (sym lasting) b.left);
    going = λ none. b.going (sym lasting ∙ none);
    within = b.within;
    motion = is;
  }

  -- ---- the next of the stretches before, in the sense, and those after it; at the flight's end nothing of a stretch, and none
  abbrev pub NextIs : List Stretch → Stretch → List Stretch → Type 0
  NextIs [] x later = (x ≡ stretch (pos 0) 0) × (later ≡ [])
  NextIs (y ∷ r) x later = (x ≡ sensed_stretch w y) × (r ≡ later)

  begun_next : {n : ℕ} {motion : Motion} {before later : List ℤ} {x : Stretch} → BeginsAt s w l n motion before
      → (r : List Stretch) → flight_of before ≡ r → NextIs r x (flight_of later) → Begun n later x
  begun_next {n} {motion} {before} {later} h [] e i = subst (Begun n later) (sym i.0) (none_begun h e i.1)
  begun_next h (y ∷ r) e i = next_begun h (e ∙ ap (λ (k : List Stretch). y ∷ k) i.1) i.0

  -- ---- a second later, with the motion m
  module _ {place : Place} (at : PlaceAt s w l place) (more : 0 < place.left) {m : Motion} (is : m ≡ motion_after place.second.motion) where
    abbrev n : ℕ
    n = place.second.n

    flying : n < duration (flown w l)
    flying = omega (arith, at.left.time)

    pub next_left : LeftAt (flown w l) (n + 1) (stretch m.acceleration (place.left - 1) ∷ flown w place.later.0.now)
    next_left =
        subst (λ (g : ℤ). LeftAt (flown w l) (n + 1) (stretch g (place.left - 1) ∷ flown w place.later.0.now)) (sym (ap (λ (i : Motion). i.acceleration) is))
        (a_second_less at.left more)

    next_height_is : m.height ≡ height_at (u s) (flown w l) (n + 1) 1
    next_height_is =
        ap (λ (i : Motion). i.height) is
        ∙ ap (λ (i : Motion). (motion_after i).height) at.motion
        ∙ sym (next_height (u s) (flown w l) n flying)
        ∙ ap (λ (i : ℕ). height_at (u s) (flown w l) i 1) {x = suc n} {y = n + 1} (omega arith)

    next_speed_is : m.speed ≡ speed_at (u s) (flown w l) (n + 1) 1
    next_speed_is =
        ap (λ (i : Motion). i.speed) is
        ∙ ap (λ (i : Motion). (motion_after i).speed) at.motion
        ∙ sym (next_speed (u s) (flown w l) n flying)
        ∙ ap (λ (i : ℕ). speed_at (u s) (flown w l) i 1) {x = suc n} {y = n + 1} (omega arith)

    -- within the stretch
    pub next_motion : 0 < place.left - 1 → m ≡ motion_at s (flown w l) (n + 1)
    next_motion still = same_motion next_height_is next_speed_is (sym (force_now next_left still))

    -- after its last second
    pub next_begins : place.left ≡ 1 → BeginsAt s w l (n + 1) m place.later.0.now
    next_begins last = record {
      left = stretch_over (subst (λ (t : ℕ). LeftAt (flown w l) (n + 1) (stretch m.acceleration t ∷ flown w place.later.0.now)) {x = place.left - 1} {y = 0} (omega arith) next_left);
      within = at.within;
      height = next_height_is;
      speed = next_speed_is;
    }

    -- the place then: within the stretch
    pub next_within : {e : place.second.n + 1 ≤ max_flight_seconds} {z : MotionSizes m} → 0 < place.left - 1 → PlaceAt s w l (placed (place.second.n + 1) m e z (place.left - 1) place.later)
    next_within still = record {
      left = next_left;
      going = λ none. absurd (omega arith);
      within = at.within;
      motion = next_motion still;
    }

    -- and after its last second, with the acceleration and the seconds of the next
    pub next_stretch : {x : Stretch} {later : Stretches} {e : place.second.n + 1 ≤ max_flight_seconds} {z : MotionSizes (moving m.height m.speed x.acceleration)}
        → place.left - 1 ≡ 0 → NextIs (flight_of place.later.0.now) x (flight_of later.0.now)
        → PlaceAt s w l (placed (place.second.n + 1) (moving m.height m.speed x.acceleration) e z x.seconds later)
    next_stretch {x} {later} last i =
        let h = next_begins (omega arith) in
        let b : Begun (place.second.n + 1) later.0.now x = begun_next h (flight_of place.later.0.now) refl i in
        begun_place b refl (begun_motion h b refl refl refl)
