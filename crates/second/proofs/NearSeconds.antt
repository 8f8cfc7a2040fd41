-- The part of a second in which the intruder is near, by the code's cases.
use mathlib.Core.Path.{◌≡◌, refl, sym, ap, ◌∙◌}
use mathlib.Core.Bool.{cond}
use Prim.Native.Nat.{ℕ, zero, suc, ◌<◌, ◌≤◌}
use native.Mathlib.Omega.{arith}
use borrow.Author.Tests.{lt-ltb, le-ltb, le-leb, lt-leb}
use lib.Dec.{leb, ltb, ltb→lt}
use lib.IntN.{ℤ, pos, negsuc, ◌+ℤ◌, ◌-ℤ◌, nat_abs}
use lib.Signed.{◌≤ℤ◌, ◌<ℤ◌}
use Rattle.integers.specs.Extremes.{max0}
use Rattle.std.proofs.lemmas.Bool.{cond-true, cond-false}
use Rattle.flight.specs.declared.Part.TheVariants.{Nowhere, FromTo, From}
use Rattle.flight.specs.inner.Parts.{part_up_to, near_part}

-- ---- up to end/c
pub up_to_passed : (c x : ℕ) (end : ℤ) → end <ℤ pos 0 → Nowhere ≡ part_up_to c x end
up_to_passed c x (pos z) h = absurd (omega (arith, ltb→lt z 0 h.lt))
up_to_passed c x (negsuc z) h = refl

-- z is end, which is not negative
module _ (c x z : ℕ) (end : ℤ) (h : pos 0 ≤ℤ end) (e : z ≡ nat_abs end) where
  up_to : cond (leb c x) Nowhere (cond (ltb z c) (FromTo x z c) (From x c)) ≡ part_up_to c x end
  up_to = ap (λ (i : ℕ). cond (leb c x) Nowhere (cond (ltb i c) (FromTo x i c) (From x c))) e ∙ not_negative end h
    where
      not_negative : (y : ℤ) → pos 0 ≤ℤ y → cond (leb c x) Nowhere (cond (ltb (nat_abs y) c) (FromTo x (nat_abs y) c) (From x c)) ≡ part_up_to c x y
      not_negative (pos n) l = refl
      not_negative (negsuc n) l = absurd l.le

  pub up_to_late : c ≤ x → Nowhere ≡ part_up_to c x end
  up_to_late l = sym (cond-true (leb c x) Nowhere (cond (ltb z c) (FromTo x z c) (From x c)) (le-leb c x l)) ∙ up_to

  module _ (l : x < c) where
    up_to_early : cond (ltb z c) (FromTo x z c) (From x c) ≡ part_up_to c x end
    up_to_early = sym (cond-false (leb c x) Nowhere (cond (ltb z c) (FromTo x z c) (From x c)) (lt-leb c x l)) ∙ up_to

    pub up_to_within : z < c → FromTo x z c ≡ part_up_to c x end
    up_to_within i = sym (cond-true (ltb z c) (FromTo x z c) (From x c) (lt-ltb z c i)) ∙ up_to_early

    pub up_to_beyond : c ≤ z → From x c ≡ part_up_to c x end
    up_to_beyond i = sym (cond-false (ltb z c) (FromTo x z c) (From x c) (le-ltb z c i)) ∙ up_to_early

-- ---- the near part
module _ (p : ℕ) (R : ℤ) where
  pub still_near : (c : ℕ) → c ≡ 0 → nat_abs R ≤ p → From 0 1 ≡ near_part c p R
  still_near zero e l = sym (cond-true (leb (nat_abs R) p) (From 0 1) Nowhere (le-leb (nat_abs R) p l))
  still_near (suc c) e l = absurd (omega arith)

  pub still_far : (c : ℕ) → c ≡ 0 → p < nat_abs R → Nowhere ≡ near_part c p R
  still_far zero e l = sym (cond-false (leb (nat_abs R) p) (From 0 1) Nowhere (lt-leb (nat_abs R) p l))
  still_far (suc c) e l = absurd (omega arith)

  pub closing_in : (c : ℕ) → ¬ (c ≡ 0) → part_up_to c (max0 (R -ℤ pos p)) (R +ℤ pos p) ≡ near_part c p R
  closing_in zero h = absurd (h refl)
  closing_in (suc c) h = refl
