-- `obeys_test` is `Obeys`, the statement over every rational time before the flight's end. Assumes nothing.
use mathlib.Core.Path.{refl, subst}
use mathlib.Core.Bool.{Bool}
use mathlib.Core.List.{List}
use mathlib.Core.Logic.{⊎_elim}
use Prim.Native.Nat.{ℕ, zero, suc, ◌<◌, ◌≤◌}
use native.Mathlib.Omega.{arith}
use lib.Dec.{ltb, ltb→lt, nltb→le}
use lib.IntN.{pos, nat_abs}
use Rattle.std.specs.Bool.{Decides}
use Rattle.std.proofs.lemmas.Bool.Decides.{Decides-like, Decides-and, Decides-or}
use Rattle.integers.proofs.Difference.{cond_by}
use Rattle.integers.proofs.Laws.{split≤}
use Rattle.path.specs.declared.SensedQuestion.{SensedQuestion}
use Rattle.path.specs.Letters.{u, q, a, d, e}
use Rattle.flight.specs.declared.Stretch.{Stretch}
use Rattle.flight.specs.Flight.{duration, acceleration_at, speed_at}
use Rattle.flight.specs.Obeying.{Obeys}
use Rattle.flight.specs.inner.BySeconds.{SecondObeys}
use Rattle.flight.specs.inner.Tests.{second_obeys, first_obey, obeys_test}
use Rattle.flight.proofs.Decides.{le_decides, nat_decides}
use Rattle.flight.proofs.BySeconds.{obeys_exactly}

module _ (s : SensedQuestion) (l : List Stretch) where
  pub second_decided : (n : ℕ) → Decides (second_obeys s l n) (SecondObeys s l n)
  unfolding second_obeys
  second_decided n = cond_by (ltb n (d s)) _ _ (λ (z : Bool). Decides z (SecondObeys s l n))
      (λ t. let h = ltb→lt n (d s) t in
      Decides-like _ (λ o. record { delayed = λ i. o; advised = λ (i : d s ≤ n). absurd (omega arith) }) (λ o. o.delayed h) (nat_decides (nat_abs (acceleration_at l n 1)) (e s)))
      (λ t. let h = nltb→le n (d s) t in
      Decides-like _ (λ o. record { delayed = λ (j : n < d s). absurd (omega arith); advised = λ j. o }) (λ o. o.advised h)
      (Decides-or _ _ (le_decides (pos (a s)) (acceleration_at l n 1)) (Decides-and _ _ (le_decides (q s) (speed_at (u s) l n 1)) (le_decides (q s) (speed_at (u s) l (suc n) 1)))))

  pub first_decided : (n : ℕ) → Decides (first_obey s l n) ((i : ℕ) → i < n → SecondObeys s l i)
  unfolding first_obey
  first_decided zero = (λ t i (h : i < 0). absurd (omega arith), λ f. refl)
  first_decided (suc n) = Decides-like _
      (λ b i (h : i < suc n). ⊎_elim
      (λ (j : n ≤ i). subst (SecondObeys s l) {x = n} {y = i} (omega arith) b.1)
      (λ (j : i < n). b.0 i j)
      (split≤ n i))
      (λ f. (λ i (h : i < n). f i (omega arith), f n (omega arith)))
      (Decides-and _ _ (first_decided n) (second_decided n))

  pub obeys_decided : Decides (obeys_test s l) (Obeys s l)
  unfolding obeys_test
  obeys_decided = let e = obeys_exactly s l in Decides-like _ e.1 e.0 (first_decided (duration l))
