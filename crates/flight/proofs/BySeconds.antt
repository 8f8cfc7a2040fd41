-- A flight obeys exactly if each of its whole seconds does. Assumes nothing.
use mathlib.Core.Path.{◌≡◌, sym, ap, ◌∙◌, subst}
use mathlib.Core.List.{List, [], ◌∷◌}
use mathlib.Core.Logic.{inl, inr, ⊎_elim, ◌↔◌}
use Prim.Native.Nat.{ℕ, suc, ◌+◌, ◌*◌, ◌/◌, ◌%◌, ◌<◌, ◌≤◌}
use native.Mathlib.Nat.{mod-lt, div-add-mod', lt_of_mul-lt-mul_right}
use native.Mathlib.Omega.{arith}
use lib.IntN.{ℤ, pos, ◌+ℤ◌, ◌*ℤ◌, nat_abs}
use lib.Signed.{◌≤ℤ◌}
use Rattle.integers.proofs.Quotation.{quote}
use Rattle.integers.proofs.Certificates.{by≤, gap≤, ◌⊞◌, ◌⊠◌, 0≤pos, pos≤}
use Rattle.path.specs.declared.SensedQuestion.{SensedQuestion}
use Rattle.path.specs.Letters.{u, q, a, d, e}
use Rattle.flight.specs.declared.Stretch.{Stretch}
use Rattle.flight.specs.Flight.{duration, acceleration_at, speed_at}
use Rattle.flight.specs.Obeying.{Obeys}
use Rattle.flight.specs.inner.BySeconds.{SecondObeys}
use Rattle.flight.proofs.Steps.{acceleration_between, speed_between, speed_step}
use Rattle.flight.proofs.AboveLower.{strong_or_fast}

-- i/m lies in the whole second n, j of m parts on
pub record InSecond (i m : ℕ) : Type 0 where
  pub n : ℕ
  pub j : ℕ
  pub less : j < m
  pub is : n * m + j ≡ i

pub second_of : (i m : ℕ) → 1 ≤ m → InSecond i m
second_of i m p = record { n = i / m; j = i % m; less = mod-lt i p; is = div-add-mod' i m }

-- the speed is at least q between two instants where it is
between_ends : (j m : ℕ) (q v g : ℤ) → j ≤ m → q ≤ℤ v → q ≤ℤ (v +ℤ g) → (q *ℤ pos m) ≤ℤ (pos m *ℤ v +ℤ g *ℤ pos j)
between_ends j m q v g l x y = by≤ (j ∷ m ∷ []) (q ∷ v ∷ g ∷ []) (gap≤ (pos≤ l) ⊠ gap≤ x ⊞ 0≤pos j ⊠ gap≤ y) (λ z. search quote depth 20) tt

times_one : (q v : ℤ) → (q *ℤ pos 1) ≤ℤ v → q ≤ℤ v
times_one q v h = by≤ [] (q ∷ v ∷ []) (gap≤ h) (λ z. search quote depth 20) tt

module _ (s : SensedQuestion) (l : List Stretch) where
  seconds_obey : Obeys s l → (n : ℕ) → n < duration l → SecondObeys s l n
  seconds_obey o n h = record {
    delayed = λ i. (o n 1 (omega arith) (omega arith)).delayed (omega arith);
    advised = λ i. ⊎_elim (λ strong. inl strong)
        (λ (r : ((q s *ℤ pos 1) ≤ℤ speed_at (u s) l n 1) × ((q s *ℤ pos 1) ≤ℤ (speed_at (u s) l n 1 +ℤ acceleration_at l n 1))).
        inr (times_one (q s) _ r.0, times_one (q s) _ (subst (λ (z : ℤ). (q s *ℤ pos 1) ≤ℤ z) (sym (speed_step (u s) l n 1 (omega arith))) r.1)))
        (strong_or_fast s l o 1 (omega arith) n (omega arith) (omega arith));
  }

  -- the whole second n, in which i/m lies, is one of the flight's
  module _ (i m : ℕ) (w : InSecond i m) where
    same_acceleration : w.n < duration l → acceleration_at l i m ≡ acceleration_at l w.n 1
    same_acceleration h =
        ap (λ (z : ℕ). acceleration_at l z m) (sym w.is) ∙ ap (λ (z : ℕ). acceleration_at l (w.n * m + w.j) z) {x = m} {y = 1 * m} (omega arith)
        ∙ acceleration_between m w.j l w.n 1 w.less (omega arith)

    speed_there : w.n < duration l → speed_at (u s) l i m ≡ pos m *ℤ speed_at (u s) l w.n 1 +ℤ acceleration_at l w.n 1 *ℤ pos w.j
    speed_there h =
        ap (λ (z : ℕ). speed_at (u s) l z m) (sym w.is) ∙ ap (λ (z : ℕ). speed_at (u s) l (w.n * m + w.j) z) {x = m} {y = 1 * m} (omega arith)
        ∙ speed_between m w.j (u s) l w.n 1 (omega (arith, w.less)) (omega arith)

  obey_by_seconds : ((n : ℕ) → n < duration l → SecondObeys s l n) → Obeys s l
  obey_by_seconds f i m pm h =
      let w = second_of i m pm in
      let is = w.is in
      let less = w.less in
      let early : (x : ℕ) → i < x * m → w.n < x = λ x j. lt_of_mul-lt-mul_right m {m = w.n} {n = x} (omega arith) in
      let late : d s * m ≤ i → d s < suc w.n = λ j. lt_of_mul-lt-mul_right m {m = d s} {n = suc w.n} (omega arith) in
      let inside = early (duration l) h in
      let o = f w.n inside in
      record {
        delayed = λ j. subst (λ (z : ℤ). nat_abs z ≤ e s) (sym (same_acceleration i m w inside)) (o.delayed (early (d s) j));
        advised = λ j. ⊎_elim
            (λ strong. inr (subst (λ (z : ℤ). pos (a s) ≤ℤ z) (sym (same_acceleration i m w inside)) strong))
            (λ (r : (q s ≤ℤ speed_at (u s) l w.n 1) × (q s ≤ℤ speed_at (u s) l (suc w.n) 1)).
            inl (subst (λ (z : ℤ). (q s *ℤ pos m) ≤ℤ z) (sym (speed_there i m w inside))
            (between_ends w.j m (q s) (speed_at (u s) l w.n 1) (acceleration_at l w.n 1) (omega arith) r.0 (subst (λ (z : ℤ). q s ≤ℤ z) (speed_step (u s) l w.n 1 (omega arith)) r.1))))
            (o.advised (let k = late j in omega arith));
      }

  pub obeys_exactly : Obeys s l ↔ ((n : ℕ) → n < duration l → SecondObeys s l n)
  obeys_exactly = (seconds_obey, obey_by_seconds)
