-- A flight from one instant of a grid to the next. Stretches last whole seconds, so on the grid of step 1/m each step lies within one stretch: the speed
-- changes by the acceleration, the height by the mean of the two speeds. Assumes nothing.
use mathlib.Core.Path.{◌≡◌, refl, sym, ap, ◌∙◌}
use mathlib.Core.List.{List, [], ◌∷◌}
use mathlib.Core.Logic.{⊎_elim}
use Prim.Native.Nat.{ℕ, suc, ◌+◌, ◌*◌, ◌-◌, ◌<◌, ◌≤◌}
use native.Mathlib.Nat.{mul-le-mul_right}
use native.Mathlib.Omega.{arith}
use lib.Dec.{ltb, ltb→lt, nltb→le}
use lib.IntN.{ℤ, pos, ◌+ℤ◌, ◌*ℤ◌}
use Rattle.integers.proofs.Difference.{cond_by}
use Rattle.integers.proofs.Quotation.{quote}
use Rattle.integers.proofs.Certificates.{ring, modulo}
use Rattle.integers.proofs.Laws.{split≤}
use Rattle.flight.specs.declared.Stretch.{Stretch}
use Rattle.flight.specs.Flight.{duration, acceleration_at, stretch_speed, stretch_height, speed_after, speed_at, height_at}

-- ---- within the first stretch, up to its last instant, and after it
module _ (x : Stretch) (l : List Stretch) (n m : ℕ) where
  pub acceleration_within_lem : n < x.seconds * m → acceleration_at (x ∷ l) n m ≡ x.acceleration
  unfolding acceleration_at
  acceleration_within_lem h = cond_by (ltb n (x.seconds * m)) _ _ (λ z. z ≡ x.acceleration) (λ t. refl) (λ t. absurd (omega (arith, nltb→le n (x.seconds * m) t)))

  pub acceleration_after : x.seconds * m ≤ n → acceleration_at (x ∷ l) n m ≡ acceleration_at l (n - x.seconds * m) m
  unfolding acceleration_at
  acceleration_after h = cond_by (ltb n (x.seconds * m)) _ _ (λ z. z ≡ acceleration_at l (n - x.seconds * m) m) (λ t. absurd (omega (arith, ltb→lt n (x.seconds * m) t))) (λ t. refl)

  pub speed_after_lem : (v : ℤ) → x.seconds * m ≤ n → speed_at v (x ∷ l) n m ≡ speed_at (speed_after v x) l (n - x.seconds * m) m
  unfolding speed_at
  speed_after_lem v h = cond_by (ltb n (x.seconds * m)) _ _ (λ z. z ≡ speed_at (speed_after v x) l (n - x.seconds * m) m) (λ t. absurd (omega (arith, ltb→lt n (x.seconds * m) t))) (λ t. refl)

  pub height_after : (v : ℤ) → x.seconds * m ≤ n → height_at v (x ∷ l) n m ≡ stretch_height v x.acceleration (x.seconds * m) m +ℤ height_at (speed_after v x) l (n - x.seconds * m) m
  unfolding height_at
  height_after v h = cond_by (ltb n (x.seconds * m)) _ _ (λ z. z ≡ stretch_height v x.acceleration (x.seconds * m) m +ℤ height_at (speed_after v x) l (n - x.seconds * m) m) (λ t. absurd (omega (arith, ltb→lt n (x.seconds * m) t))) (λ t. refl)

-- a flight starts at its speed and at height 0
pub speed_start : (v : ℤ) (l : List Stretch) (m : ℕ) → speed_at v l 0 m ≡ v *ℤ pos m
unfolding speed_at
speed_start v [] m = refl
speed_start v (x ∷ l) m = cond_by (ltb 0 (x.seconds * m)) _ _ (λ z. z ≡ v *ℤ pos m)
    (λ t. ring (m ∷ []) (v ∷ x.acceleration ∷ []) (λ w. search quote depth 20) tt)
    (λ t. let h = nltb→le 0 (x.seconds * m) t in
    ap (λ (i : ℕ). speed_at (speed_after v x) l i m) {x = 0 - x.seconds * m} {y = 0} (omega arith)
    ∙ speed_start (speed_after v x) l m
    ∙ modulo x.acceleration (ap pos {x = x.seconds * m} {y = 0} (omega arith)) (ring (x.seconds ∷ m ∷ []) (v ∷ x.acceleration ∷ []) (λ w. search quote depth 20) tt))

pub height_start : (v : ℤ) (l : List Stretch) (m : ℕ) → height_at v l 0 m ≡ pos 0
unfolding height_at
height_start v [] m = ring (m ∷ []) (v ∷ []) (λ w. search quote depth 20) tt
height_start v (x ∷ l) m = cond_by (ltb 0 (x.seconds * m)) _ _ (λ z. z ≡ pos 0)
    (λ t. ring (m ∷ []) (v ∷ x.acceleration ∷ []) (λ w. search quote depth 20) tt)
    (λ t. let h = nltb→le 0 (x.seconds * m) t in
    let e : height_at (speed_after v x) l (0 - x.seconds * m) m ≡ pos 0 = ap (λ (i : ℕ). height_at (speed_after v x) l i m) {x = 0 - x.seconds * m} {y = 0} (omega arith) ∙ height_start (speed_after v x) l m in
    modulo (pos 1) e (modulo (pos 2 *ℤ v *ℤ pos m +ℤ x.acceleration *ℤ pos (x.seconds * m)) (ap pos {x = x.seconds * m} {y = 0} (omega arith))
    (ring (x.seconds ∷ m ∷ []) (v ∷ x.acceleration ∷ height_at (speed_after v x) l (0 - x.seconds * m) m ∷ []) (λ w. search quote depth 20) tt)))

-- up to its last instant the first stretch's formulas hold
module _ (x : Stretch) (l : List Stretch) (n m : ℕ) (v : ℤ) where
  pub speed_within_lem : n ≤ x.seconds * m → speed_at v (x ∷ l) n m ≡ stretch_speed v x.acceleration n m
  unfolding speed_at
  speed_within_lem h = cond_by (ltb n (x.seconds * m)) _ _ (λ z. z ≡ stretch_speed v x.acceleration n m) (λ t. refl)
      (λ t. let i = nltb→le n (x.seconds * m) t in
      ap (λ (j : ℕ). speed_at (speed_after v x) l j m) {x = n - x.seconds * m} {y = 0} (omega arith)
      ∙ speed_start (speed_after v x) l m
      ∙ modulo x.acceleration (ap pos {x = x.seconds * m} {y = n} (omega arith)) (ring (x.seconds ∷ m ∷ n ∷ []) (v ∷ x.acceleration ∷ []) (λ w. search quote depth 20) tt))

  pub height_within_lem : n ≤ x.seconds * m → height_at v (x ∷ l) n m ≡ stretch_height v x.acceleration n m
  unfolding height_at
  height_within_lem h = cond_by (ltb n (x.seconds * m)) _ _ (λ z. z ≡ stretch_height v x.acceleration n m) (λ t. refl)
      (λ t. let i = nltb→le n (x.seconds * m) t in
      let e : height_at (speed_after v x) l (n - x.seconds * m) m ≡ pos 0 = ap (λ (j : ℕ). height_at (speed_after v x) l j m) {x = n - x.seconds * m} {y = 0} (omega arith) ∙ height_start (speed_after v x) l m in
      modulo (pos 1) e (modulo (pos 2 *ℤ v *ℤ pos m +ℤ x.acceleration *ℤ pos (x.seconds * m + n)) (ap pos {x = x.seconds * m} {y = n} (omega arith))
      (ring (x.seconds ∷ m ∷ n ∷ []) (v ∷ x.acceleration ∷ height_at (speed_after v x) l (n - x.seconds * m) m ∷ []) (λ w. search quote depth 20) tt)))

-- ---- between n/m and (n + 1)/m: at (n*K + j)/(m*K), j of K parts on, the acceleration is that at n/m, the speed and the height go on from those there
later_index : (n b m K j : ℕ) → b * m ≤ n → n * K + j - b * (m * K) ≡ (n - b * m) * K + j
later_index n b m K j h = by (n - b * m) (omega arith)
  where
    by : (i : ℕ) → n ≡ b * m + i → n * K + j - b * (m * K) ≡ i * K + j
    by i e = omega (arith, ap (λ (z : ℕ). z * K) e)

module _ (K j : ℕ) where
  pub acceleration_between : (l : List Stretch) (n m : ℕ) → j < K → n < duration l * m → acceleration_at l (n * K + j) (m * K) ≡ acceleration_at l n m
  acceleration_between [] n m p h = absurd (omega arith)
  acceleration_between (x ∷ l) n m p h = ⊎_elim
      (λ (i : x.seconds * m ≤ n).
      acceleration_after x l (n * K + j) (m * K) (omega (arith, mul-le-mul_right K i))
      ∙ ap (λ (z : ℕ). acceleration_at l z (m * K)) (later_index n x.seconds m K j i)
      ∙ acceleration_between l (n - x.seconds * m) m p (omega arith)
      ∙ sym (acceleration_after x l n m i))
      (λ (i : n < x.seconds * m). acceleration_within_lem x l (n * K + j) (m * K) (omega (arith, mul-le-mul_right K i)) ∙ sym (acceleration_within_lem x l n m i))
      (split≤ (x.seconds * m) n)

  pub speed_between : (v : ℤ) (l : List Stretch) (n m : ℕ) → j ≤ K → n < duration l * m → speed_at v l (n * K + j) (m * K) ≡ pos K *ℤ speed_at v l n m +ℤ acceleration_at l n m *ℤ pos j
  speed_between v [] n m p h = absurd (omega arith)
  speed_between v (x ∷ l) n m p h = ⊎_elim
      (λ (i : x.seconds * m ≤ n).
      rw (speed_after_lem x l n m v i, acceleration_after x l n m i)
      (speed_after_lem x l (n * K + j) (m * K) v (omega (arith, mul-le-mul_right K i))
      ∙ ap (λ (z : ℕ). speed_at (speed_after v x) l z (m * K)) (later_index n x.seconds m K j i)
      ∙ speed_between (speed_after v x) l (n - x.seconds * m) m p (omega arith)))
      (λ (i : n < x.seconds * m).
      rw (speed_within_lem x l (n * K + j) (m * K) v (omega (arith, mul-le-mul_right K i)), speed_within_lem x l n m v (omega arith), acceleration_within_lem x l n m i)
      (ring (n ∷ m ∷ K ∷ j ∷ []) (v ∷ x.acceleration ∷ []) (λ w. search quote depth 20) tt))
      (split≤ (x.seconds * m) n)

  pub height_between : (v : ℤ) (l : List Stretch) (n m : ℕ) → j ≤ K → n < duration l * m → height_at v l (n * K + j) (m * K) ≡ pos K *ℤ pos K *ℤ height_at v l n m +ℤ stretch_height (speed_at v l n m) (acceleration_at l n m) j K
  height_between v [] n m p h = absurd (omega arith)
  height_between v (x ∷ l) n m p h = ⊎_elim
      (λ (i : x.seconds * m ≤ n).
      rw (speed_after_lem x l n m v i, acceleration_after x l n m i, height_after x l n m v i)
      (height_after x l (n * K + j) (m * K) v (omega (arith, mul-le-mul_right K i))
      ∙ modulo (pos 1) (ap (λ (z : ℕ). height_at (speed_after v x) l z (m * K)) (later_index n x.seconds m K j i) ∙ height_between (speed_after v x) l (n - x.seconds * m) m p (omega arith))
      (ring (x.seconds ∷ m ∷ K ∷ j ∷ []) (v ∷ x.acceleration ∷ height_at (speed_after v x) l (n * K + j - x.seconds * (m * K)) (m * K) ∷ height_at (speed_after v x) l (n - x.seconds * m) m ∷ speed_at (speed_after v x) l (n - x.seconds * m) m ∷ acceleration_at l (n - x.seconds * m) m ∷ []) (λ w. search quote depth 20) tt)))
      (λ (i : n < x.seconds * m).
      rw (height_within_lem x l (n * K + j) (m * K) v (omega (arith, mul-le-mul_right K i)), speed_within_lem x l n m v (omega arith), acceleration_within_lem x l n m i, height_within_lem x l n m v (omega arith))
      (ring (n ∷ m ∷ K ∷ j ∷ []) (v ∷ x.acceleration ∷ []) (λ w. search quote depth 20) tt))
      (split≤ (x.seconds * m) n)

-- ---- one step of the grid: all of it, K and j being 1
module _ (v : ℤ) (l : List Stretch) (n m : ℕ) (h : n < duration l * m) where
  pub speed_step : speed_at v l (suc n) m ≡ speed_at v l n m +ℤ acceleration_at l n m
  speed_step =
      ap (λ (z : ℕ). speed_at v l (suc n) z) {x = m} {y = m * 1} (omega arith)
      ∙ ap (λ (z : ℕ). speed_at v l z (m * 1)) {x = suc n} {y = n * 1 + 1} (omega arith)
      ∙ speed_between 1 1 v l n m (omega arith) h
      ∙ ring [] (speed_at v l n m ∷ acceleration_at l n m ∷ []) (λ w. search quote depth 20) tt

  pub height_step : height_at v l (suc n) m ≡ height_at v l n m +ℤ pos 2 *ℤ speed_at v l n m +ℤ acceleration_at l n m
  height_step =
      ap (λ (z : ℕ). height_at v l (suc n) z) {x = m} {y = m * 1} (omega arith)
      ∙ ap (λ (z : ℕ). height_at v l z (m * 1)) {x = suc n} {y = n * 1 + 1} (omega arith)
      ∙ height_between 1 1 v l n m (omega arith) h
      ∙ ring [] (height_at v l n m ∷ speed_at v l n m ∷ acceleration_at l n m ∷ []) (λ w. search quote depth 20) tt
