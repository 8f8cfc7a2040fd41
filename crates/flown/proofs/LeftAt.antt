-- What is left of a flight at a second: at the start all of it, a second later a second less, and past a stretch what comes after it. Assumes nothing.
use mathlib.Core.Path.{◌≡◌, refl, sym, ap, ◌∙◌}
use mathlib.Core.List.{List, [], ◌∷◌}
use mathlib.Core.Logic.{⊎_elim}
use Prim.Native.Nat.{ℕ, suc, ◌+◌, ◌*◌, ◌-◌, ◌<◌, ◌≤◌}
use native.Mathlib.Omega.{arith}
use lib.IntN.{ℤ, pos}
use Rattle.integers.proofs.Laws.{split≤}
use Rattle.flight.specs.declared.Stretch.{Stretch}
use Rattle.flight.specs.Flight.{acceleration_at}
use Rattle.flight.proofs.Steps.{acceleration_within_lem, acceleration_after}
use Rattle.flown.specs.inner.Places.{LeftAt}

-- a stretch that has t seconds left
abbrev pub stretch : ℤ → ℕ → Stretch
stretch g t = record { acceleration = g; seconds = t }

pub all_left : (l : List Stretch) → LeftAt l 0 l
all_left l = record { time = omega arith; force = λ k. ap (λ (i : ℕ). acceleration_at l i 1) {x = 0 + k} {y = k} (omega arith) }

module _ {l : List Stretch} {n : ℕ} where
  -- no second of a stretch is left
  pub stretch_over : {g : ℤ} {r : List Stretch} → LeftAt l n (stretch g 0 ∷ r) → LeftAt l n r
  stretch_over {g} {r} h = record {
    time = omega (arith, h.time);
    force = λ k. h.force k ∙ acceleration_after (stretch g 0) r k 1 (omega arith) ∙ ap (λ (i : ℕ). acceleration_at r i 1) {x = k - 0 * 1} {y = k} (omega arith);
  }

  -- at the flight's end there is no acceleration
  pub at_end : LeftAt l n [] → LeftAt l n (stretch (pos 0) 0 ∷ [])
  unfolding acceleration_at
  at_end h = record { time = omega (arith, h.time); force = λ k. h.force k ∙ sym (acceleration_after (stretch (pos 0) 0) [] k 1 (omega arith) ∙ none (k - 0 * 1) k) }
    where
      none : (i j : ℕ) → acceleration_at [] i 1 ≡ acceleration_at [] j 1
      none i j = refl

  pub force_at_end : LeftAt l n [] → acceleration_at l n 1 ≡ pos 0
  unfolding acceleration_at
  force_at_end h = ap (λ (i : ℕ). acceleration_at l i 1) {x = n} {y = n + 0} (omega arith) ∙ h.force 0

  module _ {g : ℤ} {t : ℕ} {r : List Stretch} (h : LeftAt l n (stretch g t ∷ r)) (more : 0 < t) where
    pub force_now : acceleration_at l n 1 ≡ g
    force_now = ap (λ (i : ℕ). acceleration_at l i 1) {x = n} {y = n + 0} (omega arith) ∙ h.force 0 ∙ acceleration_within_lem (stretch g t) r 0 1 (omega arith)

    pub a_second_less : LeftAt l (n + 1) (stretch g (t - 1) ∷ r)
    a_second_less = record {
      time = omega (arith, h.time);
      force = λ k. ap (λ (i : ℕ). acceleration_at l i 1) {x = n + 1 + k} {y = n + suc k} (omega arith) ∙ h.force (suc k) ∙ later k;
    }
      where
        later : (k : ℕ) → acceleration_at (stretch g t ∷ r) (suc k) 1 ≡ acceleration_at (stretch g (t - 1) ∷ r) k 1
        later k = ⊎_elim
            (λ (i : t ≤ suc k).
            acceleration_after (stretch g t) r (suc k) 1 (omega arith)
            ∙ ap (λ (j : ℕ). acceleration_at r j 1) {x = suc k - t * 1} {y = k - (t - 1) * 1} (omega arith)
            ∙ sym (acceleration_after (stretch g (t - 1)) r k 1 (omega arith)))
            (λ (i : suc k < t). acceleration_within_lem (stretch g t) r (suc k) 1 (omega arith) ∙ sym (acceleration_within_lem (stretch g (t - 1)) r k 1 (omega arith)))
            (split≤ t (suc k))
