-- A flight is inside the puck at a rational time of a whole second exactly if in that second the test of specs/Parts.antt holds; at the flight's last instant,
-- which begins a second that the flight has nothing more of, exactly if it is inside at that instant. Assumes nothing.
use mathlib.Core.Path.{◌≡◌, sym, ap, ◌∙◌, subst}
use mathlib.Core.List.{List, [], ◌∷◌}
use mathlib.Core.Logic.Iff
use mathlib.Core.Logic.{⊎_elim, ◌↔◌}
use Prim.Native.Nat.{ℕ, ◌+◌, ◌*◌, ◌-◌, ◌<◌, ◌≤◌}
use native.Mathlib.Nat.{mul-le-mul_right, mul-pos}
use native.Mathlib.Omega.{arith}
use lib.IntN.{ℤ, pos, ◌+ℤ◌, ◌-ℤ◌, ◌*ℤ◌, nat_abs}
use lib.Signed.{◌≤ℤ◌, ◌<ℤ◌}
use Rattle.integers.proofs.Quotation.{quote}
use Rattle.integers.proofs.Certificates.{ring, modulo, by≤, div≤, gap≤, ◌⊞◌, ◌⊠◌, 0≤pos, pos≤, pos<}
use Rattle.integers.proofs.Laws.{≤ℤ-of-≡, split≤, nat_abs_hi, nat_abs_lo, nat_abs_in}
use Rattle.path.specs.declared.SensedQuestion.{SensedQuestion}
use Rattle.path.specs.Letters.{r, c, p, k, wh, u}
use Rattle.path.specs.Window.{distance_at}
use Rattle.flight.specs.declared.Stretch.{Stretch}
use Rattle.flight.specs.Flight.{duration, acceleration_at, stretch_height, speed_after, speed_at, height_at}
use Rattle.flight.specs.Inside.{InsidePuck, InsideDuring}
use Rattle.flight.specs.declared.Part.{Part}
use Rattle.flight.specs.inner.Parts.{near_part, band_from, band_to, SecondCrosses}
use Rattle.flight.proofs.Steps.{height_between, height_within_lem, height_after}
use Rattle.flight.proofs.NearParts.{NearPart, near_part_lem}
use Rattle.flight.proofs.Crossing.{Crossed, crossed_exactly}

-- ---- the band in numbers: h is the flight's height at j/K into the second, y that at its first instant, Q what it gained
module _ (K k : ℕ) (wh h y Q : ℤ) (e : h ≡ pos K *ℤ pos K *ℤ y +ℤ Q) where
  level_low : nat_abs (pos 2 *ℤ pos K *ℤ pos K *ℤ wh -ℤ h) ≤ 2 * K * K * k → ((pos 2 *ℤ (wh -ℤ pos k) -ℤ y) *ℤ pos K *ℤ pos K) ≤ℤ Q
  level_low l = by≤ (K ∷ k ∷ []) (wh ∷ h ∷ y ∷ Q ∷ []) (gap≤ (nat_abs_hi (pos 2 *ℤ pos K *ℤ pos K *ℤ wh -ℤ h) (2 * K * K * k) l) ⊞ gap≤ (≤ℤ-of-≡ e)) (λ t. search quote depth 20) tt

  level_high : nat_abs (pos 2 *ℤ pos K *ℤ pos K *ℤ wh -ℤ h) ≤ 2 * K * K * k → Q ≤ℤ ((pos 2 *ℤ (wh +ℤ pos k) -ℤ y) *ℤ pos K *ℤ pos K)
  level_high l = by≤ (K ∷ k ∷ []) (wh ∷ h ∷ y ∷ Q ∷ []) (gap≤ (nat_abs_lo (pos 2 *ℤ pos K *ℤ pos K *ℤ wh -ℤ h) (2 * K * K * k) l) ⊞ gap≤ (≤ℤ-of-≡ (sym e))) (λ t. search quote depth 20) tt

  level_in : ((pos 2 *ℤ (wh -ℤ pos k) -ℤ y) *ℤ pos K *ℤ pos K) ≤ℤ Q → Q ≤ℤ ((pos 2 *ℤ (wh +ℤ pos k) -ℤ y) *ℤ pos K *ℤ pos K) → nat_abs (pos 2 *ℤ pos K *ℤ pos K *ℤ wh -ℤ h) ≤ 2 * K * K * k
  level_in a b = nat_abs_in (pos 2 *ℤ pos K *ℤ pos K *ℤ wh -ℤ h) (2 * K * K * k)
      (by≤ (K ∷ k ∷ []) (wh ∷ h ∷ y ∷ Q ∷ []) (gap≤ b ⊞ gap≤ (≤ℤ-of-≡ e)) (λ t. search quote depth 20) tt)
      (by≤ (K ∷ k ∷ []) (wh ∷ h ∷ y ∷ Q ∷ []) (gap≤ a ⊞ gap≤ (≤ℤ-of-≡ (sym e))) (λ t. search quote depth 20) tt)

wide_band : (k : ℕ) (wh y : ℤ) → 1 ≤ k → ((pos 2 *ℤ (wh -ℤ pos k) -ℤ y) +ℤ pos 2) ≤ℤ (pos 2 *ℤ (wh +ℤ pos k) -ℤ y)
wide_band k wh y h = by≤ (k ∷ []) (wh ∷ y ∷ []) (0≤pos 4 ⊠ gap≤ (pos≤ h)) (λ t. search quote depth 20) tt

module _ (s : SensedQuestion) (l : List Stretch) (n : ℕ) (h : n < duration l) (pk : 1 ≤ k s) where
  abbrev part : Part
  part = near_part (c s) (p s) (distance_at s n 1)

  abbrev gained : ℕ → ℕ → ℤ
  gained = stretch_height (speed_at (u s) l n 1) (acceleration_at l n 1)

  abbrev Crossing : Type 0
  Crossing = Crossed (band_from s l n) (band_to s l n) (speed_at (u s) l n 1) (acceleration_at l n 1) part

  near : NearPart (c s) (p s) (distance_at s n 1) part
  near = near_part_lem (c s) (p s) (distance_at s n 1)

  height_there : (j K : ℕ) → j ≤ K → height_at (u s) l (n * K + j) K ≡ pos K *ℤ pos K *ℤ height_at (u s) l n 1 +ℤ gained j K
  height_there j K i = ap (λ (z : ℕ). height_at (u s) l (n * K + j) z) {x = K} {y = 1 * K} (omega arith) ∙ height_between K j (u s) l n 1 i (omega arith)

  distance_there : (j K : ℕ) → distance_at s (n * K + j) K ≡ distance_at s n 1 *ℤ pos K -ℤ pos (c s) *ℤ pos j
  distance_there j K = ring (c s ∷ n ∷ j ∷ K ∷ []) (r s ∷ []) (λ t. search quote depth 20) tt

  crossed : InsideDuring s l n → Crossing
  crossed d =
      let m = d.m in
      let i = d.i in
      let from = d.from in
      let to = d.to in
      let j = i - n * m in
      let same : i ≡ n * m + j = omega arith in
      let less : j < m = omega arith in
      let x : InsidePuck s l (n * m + j) m = subst (λ (z : ℕ). InsidePuck s l z m) same d.time.inside in
      let e = height_there j m (omega arith) in
      record {
        j = j;
        K = m;
        divisor = d.time.divisor;
        during = near.there j m (record { less = less; near = subst (λ (z : ℤ). nat_abs z ≤ p s * m) (distance_there j m) x.near });
        low = level_low m (k s) (wh s) (height_at (u s) l (n * m + j) m) (height_at (u s) l n 1) (gained j m) e x.level;
        high = level_high m (k s) (wh s) (height_at (u s) l (n * m + j) m) (height_at (u s) l n 1) (gained j m) e x.level;
      }

  during : Crossing → InsideDuring s l n
  during x =
      let j = x.j in
      let K = x.K in
      let b = near.back j K x.divisor x.during in
      let less = b.less in
      record {
        i = n * K + j;
        m = K;
        from = omega arith;
        to = omega arith;
        time = record {
          divisor = x.divisor;
          flown = omega (arith, mul-le-mul_right K h);
          inside = record {
            near = subst (λ (z : ℤ). nat_abs z ≤ p s * K) (sym (distance_there j K)) b.near;
            level = level_in K (k s) (wh s) (height_at (u s) l (n * K + j) K) (height_at (u s) l n 1) (gained j K) (height_there j K (omega arith)) x.low x.high;
          };
        };
      }

  pub inside_exactly : InsideDuring s l n ↔ SecondCrosses s l n
  inside_exactly = Iff.trans (crossed, during)
      (crossed_exactly (band_from s l n) (band_to s l n) (speed_at (u s) l n 1) (acceleration_at l n 1) part (wide_band (k s) (wh s) (height_at (u s) l n 1) pk) near.proper)

-- ---- the flight's last instant
pub height_scale : (v : ℤ) (l : List Stretch) (n m x : ℕ) → height_at v l (n * x) (m * x) ≡ pos x *ℤ pos x *ℤ height_at v l n m
unfolding height_at
height_scale v [] n m x = ring (n ∷ m ∷ x ∷ []) (v ∷ []) (λ t. search quote depth 20) tt
height_scale v (y ∷ l) n m x = ⊎_elim
    (λ (i : y.seconds * m ≤ n).
    height_after y l (n * x) (m * x) v (omega (arith, mul-le-mul_right x i))
    ∙ modulo (pos 1) (ap (λ (z : ℕ). height_at (speed_after v y) l z (m * x)) (later n (y.seconds * m) (y.seconds * (m * x)) x i (omega arith)) ∙ height_scale (speed_after v y) l (n - y.seconds * m) m x)
    (ring (y.seconds ∷ m ∷ x ∷ []) (v ∷ y.acceleration ∷ height_at (speed_after v y) l (n * x - y.seconds * (m * x)) (m * x) ∷ height_at (speed_after v y) l (n - y.seconds * m) m ∷ []) (λ t. search quote depth 20) tt)
    ∙ ap (λ (z : ℤ). pos x *ℤ pos x *ℤ z) (sym (height_after y l n m v i)))
    (λ (i : n < y.seconds * m).
    height_within_lem y l (n * x) (m * x) v (omega (arith, mul-le-mul_right x i))
    ∙ ring (n ∷ m ∷ x ∷ []) (v ∷ y.acceleration ∷ []) (λ t. search quote depth 20) tt
    ∙ ap (λ (z : ℤ). pos x *ℤ pos x *ℤ z) (sym (height_within_lem y l n m v (omega arith))))
    (split≤ (y.seconds * m) n)
  where
    later : (n b b' x : ℕ) → b ≤ n → b' ≡ b * x → n * x - b' ≡ (n - b) * x
    later n b b' x h e = by (n - b) (omega arith)
      where
        by : (i : ℕ) → n ≡ b + i → n * x - b' ≡ i * x
        by i f = omega (arith, ap (λ (z : ℕ). z * x) f)

whole_near : (c p n m : ℕ) (r : ℤ) → 1 ≤ m → nat_abs (r *ℤ pos m -ℤ pos c *ℤ pos (n * m)) ≤ p * m → nat_abs (r *ℤ pos 1 -ℤ pos c *ℤ pos n) ≤ p * 1
whole_near c p n m r pm h = nat_abs_in (r *ℤ pos 1 -ℤ pos c *ℤ pos n) (p * 1)
    (div≤ (c ∷ p ∷ n ∷ m ∷ []) (r ∷ []) (pos< pm) (gap≤ (nat_abs_lo (r *ℤ pos m -ℤ pos c *ℤ pos (n * m)) (p * m) h)) (λ t. search quote depth 20) tt)
    (div≤ (c ∷ p ∷ n ∷ m ∷ []) (r ∷ []) (pos< pm) (gap≤ (nat_abs_hi (r *ℤ pos m -ℤ pos c *ℤ pos (n * m)) (p * m) h)) (λ t. search quote depth 20) tt)

whole_level : (k m : ℕ) (wh y h : ℤ) → 1 ≤ m → h ≡ pos m *ℤ pos m *ℤ y → nat_abs (pos 2 *ℤ pos m *ℤ pos m *ℤ wh -ℤ h) ≤ 2 * m * m * k → nat_abs (pos 2 *ℤ pos 1 *ℤ pos 1 *ℤ wh -ℤ y) ≤ 2 * 1 * 1 * k
whole_level k m wh y h pm e l =
    let q : pos 0 <ℤ pos (m * m) = pos< (mul-pos pm pm) in
    nat_abs_in (pos 2 *ℤ pos 1 *ℤ pos 1 *ℤ wh -ℤ y) (2 * 1 * 1 * k)
    (div≤ (k ∷ m ∷ []) (wh ∷ y ∷ h ∷ []) q (gap≤ (nat_abs_lo (pos 2 *ℤ pos m *ℤ pos m *ℤ wh -ℤ h) (2 * m * m * k) l) ⊞ gap≤ (≤ℤ-of-≡ (sym e))) (λ t. search quote depth 20) tt)
    (div≤ (k ∷ m ∷ []) (wh ∷ y ∷ h ∷ []) q (gap≤ (nat_abs_hi (pos 2 *ℤ pos m *ℤ pos m *ℤ wh -ℤ h) (2 * m * m * k) l) ⊞ gap≤ (≤ℤ-of-≡ e)) (λ t. search quote depth 20) tt)

pub inside_at_end : (s : SensedQuestion) (l : List Stretch) → InsideDuring s l (duration l) ↔ InsidePuck s l (duration l) 1
inside_at_end s l = (
  λ d.
      let n = duration l in
      let m = d.m in
      let from = d.from in
      let flown = d.time.flown in
      let x : InsidePuck s l (n * m) m = subst (λ (z : ℕ). InsidePuck s l z m) {x = d.i} {y = n * m} (omega arith) d.time.inside in
      let e : height_at (u s) l (n * m) m ≡ pos m *ℤ pos m *ℤ height_at (u s) l n 1 = ap (λ (z : ℕ). height_at (u s) l (n * m) z) {x = m} {y = 1 * m} (omega arith) ∙ height_scale (u s) l n 1 m in
      record { near = whole_near (c s) (p s) n m (r s) d.time.divisor x.near; level = whole_level (k s) m (wh s) (height_at (u s) l n 1) (height_at (u s) l (n * m) m) d.time.divisor e x.level },
  λ x. record {
    i = duration l;
    m = 1;
    time = record { divisor = omega arith; flown = omega arith; inside = x };
    from = omega arith;
    to = omega arith;
  },
)
