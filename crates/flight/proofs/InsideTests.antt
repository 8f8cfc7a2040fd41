-- `first_inside` is right: the least whole second with a rational time inside the puck, or never where there is no such time up to the flight's end; and no
-- other answer is right. Assumes nothing.
use Rattle.std.specs.Prelude.{None, Option, Some}
use mathlib.Core.Path.{◌≡◌, refl, ap, subst}
use mathlib.Core.Bool.{Bool, false≢true}
use mathlib.Core.List.{List}
use mathlib.Core.Logic.{⊎_elim, ◌↔◌}
use Prim.Native.Nat.{ℕ, zero, suc, ◌+◌, ◌*◌, ◌<◌, ◌≤◌}
use native.Mathlib.Nat.{le_of_mul-le-mul_right}
use native.Mathlib.Omega.{arith}
use lib.Dec.{T_not, ltb, ltb→lt, nltb→le}
use lib.Ieee.Bits.{is_true}
use lib.IntN.{ℤ, pos, neg_ℤ, ◌+ℤ◌, ◌*ℤ◌, nat_abs}
use Rattle.std.specs.Bool.{Decides, passes}
use Rattle.std.proofs.lemmas.Bool.Decides.{Decides-like, Decides-and, Decides-or}
use Rattle.integers.proofs.Difference.{cond_by}
use Rattle.integers.proofs.Laws.{split≤}
use Rattle.path.specs.declared.SensedQuestion.{SensedQuestion}
use Rattle.path.specs.Letters.{c, p, k, u}
use Rattle.path.specs.Window.{distance_at}
use Rattle.flight.specs.declared.Stretch.{Stretch}
use Rattle.flight.specs.declared.Part.{Part}
use Rattle.flight.specs.declared.Part.TheVariants.{Nowhere, FromTo, From}
use Rattle.flight.specs.Flight.{duration, acceleration_at, stretch_height, speed_at}
use Rattle.flight.specs.Inside.{height_apart, InsidePuck, InsideTime, InsideDuring, RightEntry}
use Rattle.flight.specs.inner.Parts.{near_part, Tops, ReachesAt, Reaches, Crosses, band_from, band_to}
use Rattle.flight.specs.inner.Tests.{reaches_at, tops, reaches, crosses, inside_at, inside_second, inside_from, first_inside}
use Rattle.flight.proofs.Decides.{le_decides, lt_decides, nat_decides}
use Rattle.flight.proofs.BySeconds.{second_of}
use Rattle.flight.proofs.InsideSeconds.{inside_exactly, inside_at_end}

-- ---- one second
module _ (A v g : ℤ) where
  tops_decided : (x y : ℕ) → Decides (tops A v g x y) (Tops A v g x y)
  tops_decided x y =
      Decides-like _ (λ h. record { curved = h.0; rising = h.1.0; top = h.1.1 }) (λ h. (h.curved, (h.rising, h.top)))
      (Decides-and _ _ (lt_decides g (pos 0)) (Decides-and _ _ (le_decides (pos 0) (v *ℤ pos y +ℤ g *ℤ pos x)) (le_decides (pos 0) (v *ℤ v +ℤ g *ℤ A))))

  at_decided : (x y : ℕ) → Decides (reaches_at A v g x y) (ReachesAt A v g x y)
  at_decided x y = le_decides (A *ℤ pos y *ℤ pos y) (stretch_height v g x y)

  pub reaches_decided : (part : Part) → Decides (reaches A v g part) (Reaches A v g part)
  reaches_decided Nowhere = (λ e. false≢true e, λ h. absurd h)
  reaches_decided (FromTo x z y) = Decides-or _ _ (at_decided x y) (Decides-or _ _ (at_decided z y) (Decides-and _ _ (tops_decided x y) (le_decides (v *ℤ pos y +ℤ g *ℤ pos z) (pos 0))))
  reaches_decided (From x y) = Decides-or _ _ (at_decided x y) (Decides-or _ _ (lt_decides A (pos 2 *ℤ v +ℤ g)) (Decides-and _ _ (tops_decided x y) (lt_decides (v +ℤ g) (pos 0))))

crosses_decided : (A B v g : ℤ) (part : Part) → Decides (crosses A B v g part) (Crosses A B v g part)
crosses_decided A B v g part =
    Decides-like _ (λ h. record { up = h.0; down = h.1 }) (λ h. (h.up, h.down)) (Decides-and _ _ (reaches_decided A v g part) (reaches_decided (neg_ℤ B) (neg_ℤ v) (neg_ℤ g) part))

pub puck_decided : (s : SensedQuestion) (l : List Stretch) (n : ℕ) → Decides (inside_at s l n) (InsidePuck s l n 1)
puck_decided s l n =
    Decides-like _ (λ x. record { near = x.0; level = x.1 }) (λ x. (x.near, x.level))
    (Decides-and _ _ (nat_decides (nat_abs (distance_at s n 1)) (p s * 1)) (nat_decides (nat_abs (height_apart s l n 1)) (2 * 1 * 1 * k s)))

-- ---- the least of f seconds from n on: inside, and no earlier one is; or none is
record Least (In : ℕ → Type 0) (n i : ℕ) : Type 0 where
  inside : In i
  from : n ≤ i
  least : (j : ℕ) → n ≤ j → j < i → ¬ In j

abbrev LeastOf : (ℕ → Type 0) → ℕ → ℕ → Option ℕ → Type 0
LeastOf In f n None = (j : ℕ) → n ≤ j → j < f + n → ¬ In j
LeastOf In f n (Some i) = Least In n i

not_here : (In : ℕ → Type 0) (f n : ℕ) → ¬ In n → (r : Option ℕ) → LeastOf In f (suc n) r → LeastOf In (suc f) n r
not_here In f n out None h = λ (j : ℕ) (a : n ≤ j) (b : j < suc f + n) (i : In j). ⊎_elim (λ (c : suc n ≤ j). h j c (omega arith) i) (λ (c : j < suc n). out (subst In {x = j} {y = n} (omega arith) i)) (split≤ (suc n) j)
not_here In f n out (Some m) h = record {
  inside = h.inside;
  from = omega (arith, h.from);
  least = λ (j : ℕ) (a : n ≤ j) (b : j < m) (i : In j). ⊎_elim (λ (c : suc n ≤ j). h.least j c b i) (λ (c : j < suc n). out (subst In {x = j} {y = n} (omega arith) i)) (split≤ (suc n) j);
}

-- a time inside up to the flight's end is in one of its seconds
record SomeSecond (s : SensedQuestion) (l : List Stretch) : Type 0 where
  n : ℕ
  flown : n ≤ duration l
  during : InsideDuring s l n

some_second : (s : SensedQuestion) (l : List Stretch) (i m : ℕ) → InsideTime s l i m → SomeSecond s l
some_second s l i m t =
    let w = second_of i m t.divisor in
    let is = w.is in
    let less = w.less in
    let flown = t.flown in
    record { n = w.n; flown = le_of_mul-le-mul_right {m = w.n} {n = duration l} {k = m} (omega arith) t.divisor; during = record { i = i; m = m; time = t; from = omega arith; to = omega arith } }

module _ (s : SensedQuestion) (l : List Stretch) (pk : 1 ≤ k s) where
  pub second_inside : (n : ℕ) → n ≤ duration l → Decides (inside_second s l n) (InsideDuring s l n)
  unfolding inside_second
  second_inside n h = cond_by (ltb n (duration l)) _ _ (λ (z : Bool). Decides z (InsideDuring s l n))
      (λ t. let e = inside_exactly s l n (ltb→lt n (duration l) t) pk in
      Decides-like _ e.1 e.0 (crosses_decided (band_from s l n) (band_to s l n) (speed_at (u s) l n 1) (acceleration_at l n 1) (near_part (c s) (p s) (distance_at s n 1))))
      (λ t. let j = nltb→le n (duration l) t in
      let e = subst (λ (z : ℕ). InsideDuring s l z ↔ InsidePuck s l z 1) {x = duration l} {y = n} (omega arith) (inside_at_end s l) in
      Decides-like _ e.1 e.0 (puck_decided s l n))

  from_least : (f n : ℕ) → f + n ≤ suc (duration l) → LeastOf (InsideDuring s l) f n (inside_from s l f n)
  unfolding inside_from
  from_least zero n h = λ (j : ℕ) (a : n ≤ j) (b : j < 0 + n) i. absurd (omega arith)
  from_least (suc f) n h =
      let r = from_least f (suc n) (omega arith) in
      let i = second_inside n (omega arith) in
      cond_by (inside_second s l n) (Some n) (inside_from s l f (suc n)) (LeastOf (InsideDuring s l) (suc f) n)
      (λ t. record { inside = i.0 (is_true _ t); from = omega arith; least = λ (j : ℕ) (a : n ≤ j) (b : j < n). absurd (omega arith) })
      (λ t. not_here (InsideDuring s l) f n (λ x. T_not (inside_second s l n) t (passes _ (i.1 x))) (inside_from s l f (suc n)) r)

  right : (r : Option ℕ) → LeastOf (InsideDuring s l) (suc (duration l)) 0 r → RightEntry s l r
  right None h = λ n m t. let x = some_second s l n m t in let flown = x.flown in h x.n (omega arith) (omega arith) x.during
  right (Some n) h = record { inside = h.inside; least = λ (j : ℕ) (b : j < n). h.least j (omega arith) b }

  pub right_entry : RightEntry s l (first_inside s l)
  unfolding first_inside
  right_entry = right (inside_from s l (suc (duration l)) 0) (from_least (suc (duration l)) 0 (omega arith))

-- ---- one answer alone is right
pub one_entry : (s : SensedQuestion) (l : List Stretch) (x y : Option ℕ) → RightEntry s l x → RightEntry s l y → x ≡ y
one_entry s l None None h k = refl
one_entry s l None (Some n) h k = absurd (h k.inside.i k.inside.m k.inside.time)
one_entry s l (Some n) None h k = absurd (k h.inside.i h.inside.m h.inside.time)
one_entry s l (Some n) (Some m) h k = ⊎_elim
    (λ (a : n ≤ m). ⊎_elim
    (λ (b : m ≤ n). ap (λ (z : ℕ). Some z) {x = n} {y = m} (omega arith))
    (λ (b : n < m). absurd (k.least n b h.inside))
    (split≤ m n))
    (λ (a : m < n). absurd (h.least m a k.inside))
    (split≤ n m)
