-- An obeying flight is never below the lower path. On the grid of step 1/m it keeps up with the path's speed and height from each instant to the next, up to
-- the end of the delay and after it: there it either accelerates as the rule does, or it has the target speed at both ends of the step. Assumes nothing.
use mathlib.Core.Path.{◌≡◌, ◌∙◌}
use mathlib.Core.List.{List, [], ◌∷◌}
use mathlib.Core.Logic.{◌⊎◌, inl, inr, ⊎_elim}
use Prim.Native.Nat.{ℕ, zero, suc, ◌+◌, ◌*◌, ◌-◌, ◌<◌, ◌≤◌}
use native.Mathlib.Nat.{mul-le-mul_right, mul-pos}
use native.Mathlib.Omega.{arith}
use lib.IntN.{ℤ, pos, neg_ℤ, ◌+ℤ◌, ◌-ℤ◌, ◌*ℤ◌, nat_abs}
use lib.Signed.{◌≤ℤ◌, ◌<ℤ◌, <ℤ_irrefl}
use Rattle.integers.specs.Extremes.{max0}
use Rattle.integers.proofs.Quotation.{quote}
use Rattle.integers.proofs.Certificates.{ring, modulo, by≤, by<, gap≤, gap<, ◌⊞◌, ◌⊠◌, 0≤pos, 0≤square, pos≤, split<}
use Rattle.integers.proofs.Laws.{≤ℤ-of-≡, ≤ℤ_trans, split≤, max0_ge, nat_abs_lo}
use Rattle.path.specs.declared.SensedQuestion.{SensedQuestion}
use Rattle.path.specs.Letters.{u, q, a, d, e}
use Rattle.path.specs.Paths.{advice_gain, delay_height, u_d, lower_path}
use Rattle.path.proofs.AdviceRule.{missing, gain_zero}
use Rattle.grid.proofs.RuleSteps.{missing_falls, missing_kept, missing_exact, gain_step}
use Rattle.path.proofs.Continued.{continued_before, continued_after}
use Rattle.flight.specs.declared.Stretch.{Stretch}
use Rattle.flight.specs.Flight.{duration, acceleration_at, speed_at, height_at}
use Rattle.flight.specs.Obeying.{Obeys}
use Rattle.flight.proofs.Steps.{speed_start, height_start, acceleration_between, speed_between, speed_step, height_step}

-- ---- a step of the grid in numbers: y, v and g are the flight's height, speed and acceleration, f the path's height, w and w' the missing speed
module _ (a m w w' : ℕ) (q v g : ℤ) (keeps : (q *ℤ pos m -ℤ pos w) ≤ℤ v) where
  -- it accelerates as the rule does
  module _ (strong : pos a ≤ℤ g) (kept : w ≤ w' + a) where
    strong_speed : (q *ℤ pos m -ℤ pos w') ≤ℤ (v +ℤ g)
    strong_speed = by≤ (a ∷ m ∷ w ∷ w' ∷ []) (q ∷ v ∷ g ∷ []) (gap≤ keeps ⊞ gap≤ strong ⊞ gap≤ (pos≤ kept)) (λ z. search quote depth 20) tt

    strong_height : (f y : ℤ) → w' * (w' + a) ≤ w' * w → f ≤ℤ (pos a *ℤ y) → (f +ℤ pos 2 *ℤ pos a *ℤ q *ℤ pos m +ℤ pos w' *ℤ pos w' -ℤ pos w *ℤ pos w) ≤ℤ (pos a *ℤ (y +ℤ pos 2 *ℤ v +ℤ g))
    strong_height f y exact h = by≤ (a ∷ m ∷ w ∷ w' ∷ []) (q ∷ v ∷ g ∷ f ∷ y ∷ [])
        (gap≤ h ⊞ 0≤pos (2 * a) ⊠ gap≤ keeps ⊞ 0≤pos a ⊠ gap≤ strong ⊞ 0≤square (pos a -ℤ pos w +ℤ pos w') ⊞ 0≤pos 2 ⊠ gap≤ (pos≤ exact)) (λ z. search quote depth 20) tt

  -- it has the target speed, at both ends
  module _ (here : (q *ℤ pos m) ≤ℤ v) (there : (q *ℤ pos m) ≤ℤ (v +ℤ g)) where
    reached_speed : (q *ℤ pos m -ℤ pos w') ≤ℤ (v +ℤ g)
    reached_speed = by≤ (m ∷ w' ∷ []) (q ∷ v ∷ g ∷ []) (gap≤ there) (λ z. search quote depth 20) tt

    reached_height : (f y : ℤ) → w' ≤ w → f ≤ℤ (pos a *ℤ y) → (f +ℤ pos 2 *ℤ pos a *ℤ q *ℤ pos m +ℤ pos w' *ℤ pos w' -ℤ pos w *ℤ pos w) ≤ℤ (pos a *ℤ (y +ℤ pos 2 *ℤ v +ℤ g))
    reached_height f y falls h = by≤ (a ∷ m ∷ w ∷ w' ∷ []) (q ∷ v ∷ g ∷ f ∷ y ∷ [])
        (gap≤ h ⊞ 0≤pos a ⊠ gap≤ here ⊞ 0≤pos a ⊠ gap≤ there ⊞ gap≤ (pos≤ falls) ⊠ 0≤pos (w + w')) (λ z. search quote depth 20) tt

-- the target speed K − 1 of K parts into a step, K above the acceleration's size, is the target speed at its end
reached_end : (m j : ℕ) (q v g : ℤ) → neg_ℤ (pos j) ≤ℤ g → (q *ℤ pos (m * suc j)) ≤ℤ (pos (suc j) *ℤ v +ℤ g *ℤ pos j) → (q *ℤ pos m) ≤ℤ (v +ℤ g)
reached_end m j q v g size h = ⊎_elim
    (λ (l : (v +ℤ g) <ℤ (q *ℤ pos m)). absurd (<ℤ_irrefl {a = pos 0} (by< (m ∷ j ∷ []) (q ∷ v ∷ g ∷ []) (0≤pos (suc j) ⊠ gap< l ⊞ gap≤ h ⊞ gap≤ size) (λ z. search quote depth 20) tt)))
    (λ l. l)
    (split< (v +ℤ g) (q *ℤ pos m))

module _ (s : SensedQuestion) (l : List Stretch) (obeys : Obeys s l) (m : ℕ) (pm : 1 ≤ m) where
  abbrev speed : ℕ → ℤ
  speed n = speed_at (u s) l n m

  abbrev height : ℕ → ℤ
  height n = height_at (u s) l n m

  abbrev force : ℕ → ℤ
  force n = acceleration_at l n m

  -- ---- up to the end of the delay
  record Early (n : ℕ) : Type 0 where
    keeps : (u s *ℤ pos m -ℤ pos (e s) *ℤ pos n) ≤ℤ speed n
    above : delay_height (neg_ℤ (pos (e s))) (u s) n m ≤ℤ height n

  early : (n : ℕ) → n ≤ d s * m → n ≤ duration l * m → Early n
  unfolding delay_height
  early zero i j = record {
    keeps = rw (speed_start (u s) l m) (by≤ (m ∷ e s ∷ []) (u s ∷ []) (0≤pos 0) (λ z. search quote depth 20) tt);
    above = rw (height_start (u s) l m) (by≤ (m ∷ e s ∷ []) (u s ∷ []) (0≤pos 0) (λ z. search quote depth 20) tt);
  }
  early (suc n) i j =
      let h = early n (omega arith) (omega arith) in
      let g = nat_abs_lo (force n) (e s) ((obeys n m pm (omega arith)).delayed (omega arith)) in
      record {
        keeps = rw (speed_step (u s) l n m (omega arith)) (by≤ (m ∷ n ∷ e s ∷ []) (u s ∷ speed n ∷ force n ∷ []) (gap≤ h.keeps ⊞ gap≤ g) (λ z. search quote depth 20) tt);
        above = rw (height_step (u s) l n m (omega arith)) (by≤ (m ∷ n ∷ e s ∷ []) (u s ∷ height n ∷ speed n ∷ force n ∷ []) (gap≤ h.above ⊞ 0≤pos 2 ⊠ gap≤ h.keeps ⊞ gap≤ g) (λ z. search quote depth 20) tt);
      }

  -- ---- from then on
  pub strong_or_fast : (n : ℕ) → d s * m ≤ n → n < duration l * m → (pos (a s) ≤ℤ force n) ⊎ (((q s *ℤ pos m) ≤ℤ speed n) × ((q s *ℤ pos m) ≤ℤ (speed n +ℤ force n)))
  strong_or_fast n i j =
      let N = nat_abs (force n) in
      let K = suc N in
      let o = (obeys (n * K + N) (m * K) (mul-pos pm (omega arith)) (omega (arith, mul-le-mul_right K j))).advised (omega (arith, mul-le-mul_right K i)) in
      ⊎_elim
      (λ (here : (q s *ℤ pos m) ≤ℤ speed n). ⊎_elim
      (λ (there : (q s *ℤ pos (m * K)) ≤ℤ speed_at (u s) l (n * K + N) (m * K)).
      inr (here, reached_end m N (q s) (speed n) (force n) (nat_abs_lo (force n) N (omega arith)) (rw (speed_between K N (u s) l n m (omega arith) j) at there)))
      (λ strong. inl (rw (acceleration_between K N l n m (omega arith) j) at strong))
      o)
      (λ strong. inl strong)
      ((obeys n m pm j).advised i)

  abbrev lost : ℕ → ℕ
  lost i = missing (a s) (q s) (u_d s) i m

  abbrev gained : ℕ → ℤ
  gained i = advice_gain (a s) (q s) (u_d s) i m

  abbrev start : ℤ
  start = pos (a s) *ℤ delay_height (neg_ℤ (pos (e s))) (u s) (d s * m) m

  record Late (i : ℕ) : Type 0 where
    keeps : (q s *ℤ pos m -ℤ pos (lost i)) ≤ℤ speed (d s * m + i)
    above : (start +ℤ gained i) ≤ℤ (pos (a s) *ℤ height (d s * m + i))

  late_start : d s * m ≤ duration l * m → Late 0
  late_start j =
      let h = early (d s * m) (omega arith) j in
      let same : d s * m + 0 ≡ d s * m = omega arith in
      record {
        keeps = rw same (by≤ (m ∷ a s ∷ d s ∷ e s ∷ max0 (q s -ℤ u_d s) ∷ lost 0 ∷ []) (u s ∷ q s ∷ speed (d s * m) ∷ [])
            (gap≤ h.keeps ⊞ gap≤ (max0_ge (q s -ℤ u_d s)) ⊠ 0≤pos m ⊞ gap≤ (pos≤ {m = max0 (q s -ℤ u_d s) * m} {n = lost 0} (omega arith))) (λ z. search quote depth 20) tt);
        above = rw (same, gain_zero (a s) m (q s) (u_d s)) (by≤ (a s ∷ []) (delay_height (neg_ℤ (pos (e s))) (u s) (d s * m) m ∷ height (d s * m) ∷ []) (0≤pos (a s) ⊠ gap≤ h.above) (λ z. search quote depth 20) tt);
      }

  late_step : (i : ℕ) → d s * m + i < duration l * m → Late i → Late (suc i)
  late_step i j h =
      let n = d s * m + i in
      let next : d s * m + suc i ≡ suc n = omega arith in
      let gain : start +ℤ gained (suc i) ≡ (start +ℤ gained i) +ℤ pos 2 *ℤ pos (a s) *ℤ q s *ℤ pos m +ℤ pos (lost (suc i)) *ℤ pos (lost (suc i)) -ℤ pos (lost i) *ℤ pos (lost i) =
      modulo (pos 1) (gain_step (a s) i m (q s) (u_d s)) (ring (a s ∷ m ∷ lost i ∷ lost (suc i) ∷ []) (delay_height (neg_ℤ (pos (e s))) (u s) (d s * m) m ∷ gained i ∷ gained (suc i) ∷ q s ∷ []) (λ z. search quote depth 20) tt) in
      ⊎_elim
      (λ (strong : pos (a s) ≤ℤ force n). record {
        keeps = rw (next, speed_step (u s) l n m j) (strong_speed (a s) m (lost i) (lost (suc i)) (q s) (speed n) (force n) h.keeps strong (missing_kept (a s) i m (q s) (u_d s)));
        above = rw (next, height_step (u s) l n m j) (≤ℤ_trans (≤ℤ-of-≡ gain) (strong_height (a s) m (lost i) (lost (suc i)) (q s) (speed n) (force n) h.keeps strong (missing_kept (a s) i m (q s) (u_d s))
            (start +ℤ gained i) (height n) (missing_exact (a s) i m (q s) (u_d s)) h.above));
      })
      (λ (reached : ((q s *ℤ pos m) ≤ℤ speed n) × ((q s *ℤ pos m) ≤ℤ (speed n +ℤ force n))). record {
        keeps = rw (next, speed_step (u s) l n m j) (reached_speed (a s) m (lost i) (lost (suc i)) (q s) (speed n) (force n) h.keeps reached.0 reached.1);
        above = rw (next, height_step (u s) l n m j) (≤ℤ_trans (≤ℤ-of-≡ gain) (reached_height (a s) m (lost i) (lost (suc i)) (q s) (speed n) (force n) h.keeps reached.0 reached.1
            (start +ℤ gained i) (height n) (missing_falls (a s) i m (q s) (u_d s)) h.above));
      })
      (strong_or_fast n (omega arith) j)

  late : (i : ℕ) → d s * m + i ≤ duration l * m → Late i
  late zero j = late_start (omega arith)
  late (suc i) j = late_step i (omega arith) (late i (omega arith))

  -- ---- f ≤ y at every rational time up to the flight's end; f stands times 2*a*m², y times 2*m²
  pub above_lower : (n : ℕ) → n ≤ duration l * m → lower_path s n m ≤ℤ (pos (a s) *ℤ height_at (u s) l n m)
  above_lower n j =
      let f = delay_height (neg_ℤ (pos (e s))) (u s) in
      let g = advice_gain (a s) (q s) (u_d s) in
      let g-zero : (z : ℕ) → g 0 z ≡ pos 0 = λ z. gain_zero (a s) z (q s) (u_d s) in
      ⊎_elim
      (λ (i : n ≤ d s * m). ≤ℤ_trans (≤ℤ-of-≡ (continued_before (a s) f (d s) 1 g g-zero n m i))
      (by≤ (a s ∷ []) (f n m ∷ height n ∷ []) (0≤pos (a s) ⊠ gap≤ (early n i j).above) (λ z. search quote depth 20) tt))
      (λ (i : d s * m < n).
      let same : d s * m + (n - d s * m) ≡ n = omega arith in
      let h = (late (n - d s * m) (omega arith)).above in
      ≤ℤ_trans (≤ℤ-of-≡ (continued_after (a s) f (d s) 1 g g-zero n m (omega arith)
      ∙ ring (a s ∷ []) (f (d s * m) m ∷ g (n - d s * m) m ∷ []) (λ z. search quote depth 20) tt))
      (rw same at h))
      (split≤ n (d s * m))
