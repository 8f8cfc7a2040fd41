-- The part of a second in which the intruder is horizontally within the puck. Assumes nothing.
use mathlib.Core.Path.{◌≡◌, refl, sym}
use mathlib.Core.Bool.{cond}
use mathlib.Core.List.{[], ◌∷◌}
use Prim.Native.Nat.{ℕ, zero, suc, ◌*◌, ◌<◌, ◌≤◌}
use native.Mathlib.Nat.{mul-le-mul_right, lt_of_mul-lt-mul_right}
use native.Mathlib.Omega.{arith}
use lib.Dec.{leb, ltb, leb→le, nleb→lt, ltb→lt, nltb→le}
use lib.IntN.{ℤ, pos, negsuc, ◌+ℤ◌, ◌-ℤ◌, ◌*ℤ◌, nat_abs}
use lib.Signed.{◌≤ℤ◌, <ℤ_irrefl}
use Rattle.integers.specs.Extremes.{max0}
use Rattle.integers.proofs.Difference.{cond_by}
use Rattle.integers.proofs.Quotation.{quote}
use Rattle.integers.proofs.Certificates.{by≤, by<, div≤, gap≤, ◌⊞◌, ◌⊠◌, 0≤pos, pos≤, pos<, nat≤}
use Rattle.integers.proofs.Laws.{≤ℤ-of-≡, max0_ge, max0_le, max0_scale, nat_abs_hi, nat_abs_lo, nat_abs_in}
use Rattle.flight.specs.declared.Part.{Part}
use Rattle.flight.specs.inner.Parts.{InPart, Proper, DivisorWithin, part_up_to, near_part}
use Rattle.flight.specs.declared.Part.TheVariants.{Nowhere, FromTo, From}

-- j/K into the second the intruder is near
pub record NearAt (c p : ℕ) (R : ℤ) (j K : ℕ) : Type 0 where
  pub less : j < K
  pub near : nat_abs (R *ℤ pos K -ℤ pos c *ℤ pos j) ≤ p * K

pub record NearPart (c p : ℕ) (R : ℤ) (part : Part) : Type 0 where
  pub proper : Proper part
  pub there : (j K : ℕ) → NearAt c p R j K → InPart part j K
  pub back : (j K : ℕ) → 1 ≤ K → InPart part j K → NearAt c p R j K

-- |R*K − c*j| ≤ p*K as two orders
module _ (c p : ℕ) (R : ℤ) (j K : ℕ) where
  after : nat_abs (R *ℤ pos K -ℤ pos c *ℤ pos j) ≤ p * K → ((R -ℤ pos p) *ℤ pos K) ≤ℤ pos (c * j)
  after h = by≤ (c ∷ p ∷ j ∷ K ∷ []) (R ∷ []) (gap≤ (nat_abs_hi (R *ℤ pos K -ℤ pos c *ℤ pos j) (p * K) h)) (λ w. search quote depth 20) tt

  until : nat_abs (R *ℤ pos K -ℤ pos c *ℤ pos j) ≤ p * K → pos (c * j) ≤ℤ ((R +ℤ pos p) *ℤ pos K)
  until h = by≤ (c ∷ p ∷ j ∷ K ∷ []) (R ∷ []) (gap≤ (nat_abs_lo (R *ℤ pos K -ℤ pos c *ℤ pos j) (p * K) h)) (λ w. search quote depth 20) tt

  near_by : ((R -ℤ pos p) *ℤ pos K) ≤ℤ pos (c * j) → pos (c * j) ≤ℤ ((R +ℤ pos p) *ℤ pos K) → nat_abs (R *ℤ pos K -ℤ pos c *ℤ pos j) ≤ p * K
  near_by l h = nat_abs_in (R *ℤ pos K -ℤ pos c *ℤ pos j) (p * K)
      (by≤ (c ∷ p ∷ j ∷ K ∷ []) (R ∷ []) (gap≤ h) (λ w. search quote depth 20) tt)
      (by≤ (c ∷ p ∷ j ∷ K ∷ []) (R ∷ []) (gap≤ l) (λ w. search quote depth 20) tt)

-- ---- not closing in
still_near : (p : ℕ) (R : ℤ) (j K : ℕ) → 0 < K → nat_abs (R *ℤ pos K -ℤ pos 0 *ℤ pos j) ≤ p * K → nat_abs R ≤ p
still_near p R j K pK h = nat_abs_in R p
    (div≤ (p ∷ j ∷ K ∷ []) (R ∷ []) (pos< pK) (gap≤ (until 0 p R j K h)) (λ w. search quote depth 20) tt)
    (div≤ (p ∷ j ∷ K ∷ []) (R ∷ []) (pos< pK) (gap≤ (after 0 p R j K h)) (λ w. search quote depth 20) tt)

near_still : (p : ℕ) (R : ℤ) (j K : ℕ) → nat_abs R ≤ p → nat_abs (R *ℤ pos K -ℤ pos 0 *ℤ pos j) ≤ p * K
near_still p R j K h = near_by 0 p R j K
    (by≤ (p ∷ j ∷ K ∷ []) (R ∷ []) (gap≤ (nat_abs_hi R p h) ⊠ 0≤pos K) (λ w. search quote depth 20) tt)
    (by≤ (p ∷ j ∷ K ∷ []) (R ∷ []) (gap≤ (nat_abs_lo R p h) ⊠ 0≤pos K) (λ w. search quote depth 20) tt)

-- ---- closing in: Z is R + p
module _ (c p : ℕ) (R : ℤ) (pc : 0 < c) where
  abbrev x : ℕ
  x = max0 (R -ℤ pos p)

  from_x : (j K : ℕ) → NearAt c p R j K → x * K ≤ j * c
  from_x j K n = let h = max0_scale (R -ℤ pos p) K (c * j) (after c p R j K n.near) in omega arith

  x_after : (j K : ℕ) → x * K ≤ j * c → ((R -ℤ pos p) *ℤ pos K) ≤ℤ pos (c * j)
  x_after j K h = by≤ (c ∷ p ∷ j ∷ K ∷ max0 (R -ℤ pos p) ∷ []) (R ∷ []) (gap≤ (max0_ge (R -ℤ pos p)) ⊠ 0≤pos K ⊞ gap≤ (pos≤ h)) (λ w. search quote depth 20) tt

  past : (z j K : ℕ) → R +ℤ pos p ≡ negsuc z → NearAt c p R j K → ⊥
  past z j K e n = <ℤ_irrefl {a = pos 0} (by< (c ∷ p ∷ z ∷ j ∷ K ∷ []) (R ∷ []) (gap≤ (until c p R j K n.near) ⊞ gap≤ (≤ℤ-of-≡ e) ⊠ 0≤pos K ⊞ gap≤ (pos≤ n.less) ⊞ 0≤pos (z * K) ⊞ 0≤pos (c * j) ⊞ 0≤pos j) (λ w. search quote depth 20) tt)

  module _ (z : ℕ) (e : R +ℤ pos p ≡ pos z) where
    till_z : (j K : ℕ) → NearAt c p R j K → j * c ≤ z * K
    till_z j K n = nat≤ {m = j * c} {n = z * K} (by≤ (c ∷ p ∷ z ∷ j ∷ K ∷ []) (R ∷ []) (gap≤ (until c p R j K n.near) ⊞ gap≤ (≤ℤ-of-≡ e) ⊠ 0≤pos K) (λ w. search quote depth 20) tt)

    z_till : (j K : ℕ) → j * c ≤ z * K → pos (c * j) ≤ℤ ((R +ℤ pos p) *ℤ pos K)
    z_till j K h = by≤ (c ∷ p ∷ z ∷ j ∷ K ∷ []) (R ∷ []) (gap≤ (≤ℤ-of-≡ (sym e)) ⊠ 0≤pos K ⊞ gap≤ (pos≤ h)) (λ w. search quote depth 20) tt

    x_z : x ≤ z
    x_z = max0_le (R -ℤ pos p) z (by≤ (p ∷ z ∷ []) (R ∷ []) (gap≤ (≤ℤ-of-≡ e)) (λ w. search quote depth 20) tt)

    part_pos : NearPart c p R (part_up_to c x (pos z))
    part_pos = cond_by (leb c x) Nowhere (cond (ltb z c) (FromTo x z c) (From x c)) (NearPart c p R)
        (λ t. let l = leb→le c x t in record {
          proper = tt;
          there = λ j K n. let h = from_x j K n in let less = n.less in absurd (omega (arith, mul-le-mul_right K l, mul-le-mul_right c less));
          back = λ j K pK i. absurd i;
        })
        (λ t. let l = nleb→lt c x t in cond_by (ltb z c) (FromTo x z c) (From x c) (NearPart c p R)
        (λ r. let zc = ltb→lt z c r in record {
          proper = (x_z, zc);
          there = λ j K n. (from_x j K n, till_z j K n);
          back = λ j K pK i. let h = i.1 in record { less = lt_of_mul-lt-mul_right c {m = j} {n = K} (omega (arith, mul-le-mul_right K zc)); near = near_by c p R j K (x_after j K i.0) (z_till j K i.1) };
        })
        (λ r. let zc = nltb→le z c r in record {
          proper = l;
          there = λ j K n. (from_x j K n, n.less);
          back = λ j K pK i. let less = i.1 in record { less = i.1; near = near_by c p R j K (x_after j K i.0) (z_till j K (omega (arith, mul-le-mul_right c less, mul-le-mul_right K zc))) };
        }))

  part_any : (Z : ℤ) → R +ℤ pos p ≡ Z → NearPart c p R (part_up_to c x Z)
  part_any (negsuc z) e = record { proper = tt; there = λ j K n. past z j K e n; back = λ j K pK i. absurd i }
  part_any (pos z) e = part_pos z e

pub near_part_lem : (c p : ℕ) (R : ℤ) → NearPart c p R (near_part c p R)
near_part_lem zero p R = cond_by (leb (nat_abs R) p) (From 0 1) Nowhere (NearPart 0 p R)
    (λ t. let l = leb→le (nat_abs R) p t in record {
      proper = omega arith;
      there = λ j K n. (omega arith, n.less);
      back = λ j K pK i. record { less = i.1; near = near_still p R j K l };
    })
    (λ t. let l = nleb→lt (nat_abs R) p t in record {
      proper = tt;
      there = λ j K n. let less = n.less in absurd (omega (arith, still_near p R j K (omega arith) n.near));
      back = λ j K pK i. absurd i;
    })
near_part_lem (suc c) p R = part_any (suc c) p R (omega arith) (R +ℤ pos p) refl

-- its fractions have the divisor c, or 1
pub near_divisor : (B c p : ℕ) (R : ℤ) → 1 ≤ B → c ≤ B → DivisorWithin B (near_part c p R)
near_divisor B zero p R one h = cond_by (leb (nat_abs R) p) (From 0 1) Nowhere (DivisorWithin B) (λ t. one) (λ t. tt)
near_divisor B (suc c) p R one h = up_to (R +ℤ pos p)
  where
    up_to : (Z : ℤ) → DivisorWithin B (part_up_to (suc c) (max0 (R -ℤ pos p)) Z)
    up_to (negsuc z) = tt
    up_to (pos z) = let x = max0 (R -ℤ pos p) in
        cond_by (leb (suc c) x) Nowhere (cond (ltb z (suc c)) (FromTo x z (suc c)) (From x (suc c))) (DivisorWithin B) (λ t. tt)
        (λ t. cond_by (ltb z (suc c)) (FromTo x z (suc c)) (From x (suc c)) (DivisorWithin B) (λ t. h) (λ t. h))
