-- A quadratic reaches a value at a rational time of a part of a second exactly if it does at an end or at its top. Assumes nothing.
use mathlib.Core.Path.{◌≡◌, refl, sym}
use mathlib.Core.List.{[], ◌∷◌}
use mathlib.Core.Logic.{inl, inr, ⊎_elim, ◌↔◌}
use Prim.Native.Nat.{ℕ, suc, ◌+◌, ◌*◌, ◌<◌, ◌≤◌}
use native.Mathlib.Nat.{mul-le-mul_right, mul-pos}
use native.Mathlib.Omega.{arith}
use lib.IntN.{ℤ, pos, negsuc, neg_ℤ, ◌+ℤ◌, ◌-ℤ◌, ◌*ℤ◌, nat_abs}
use lib.Signed.{◌≤ℤ◌, ◌<ℤ◌, <ℤ_irrefl}
use Rattle.integers.proofs.Quotation.{quote}
use Rattle.integers.proofs.Certificates.{by≤, by<, div≤, gap≤, gap<, ◌⊞◌, ◌⊠◌, 0≤pos, 0≤square, pos≤, pos<, nat≤, nat<, split<}
use Rattle.integers.proofs.Laws.{≤ℤ-of-≡, <ℤ_≤ℤ, nat_abs_hi, nat_abs_lo}
use Rattle.flight.specs.declared.Part.{Part}
use Rattle.flight.specs.inner.Parts.{InPart, Proper, Tops, ReachesAt, Reaches}
use Rattle.flight.specs.declared.Part.TheVariants.{Nowhere, FromTo, From}

-- a rational time of the part at which the quadratic is at least A
pub record Reached (A v g : ℤ) (part : Part) : Type 0 where
  pub j : ℕ
  pub K : ℕ
  pub divisor : 1 ≤ K
  pub during : InPart part j K
  pub high : ReachesAt A v g j K

-- ---- from a time j/K of the part to an end or the top
module _ (A v g : ℤ) (j K : ℕ) (pK : 1 ≤ K) (high : ReachesAt A v g j K) where
  square : pos 0 <ℤ pos (K * K)
  square = pos< (mul-pos pK pK)

  -- x/y is earlier, and the speed at j/K is not positive and rises, or the speed at x/y is not positive and falls
  module _ (x y : ℕ) (l : x * K ≤ j * y) where
    start_rising : pos 0 ≤ℤ g → (v *ℤ pos K +ℤ g *ℤ pos j) ≤ℤ pos 0 → ReachesAt A v g x y
    start_rising c h = div≤ (j ∷ K ∷ x ∷ y ∷ []) (A ∷ v ∷ g ∷ []) square
        (0≤pos (y * y) ⊠ gap≤ high ⊞ 0≤pos (2 * y) ⊠ gap≤ (pos≤ l) ⊠ gap≤ h ⊞ c ⊠ 0≤square (pos (j * y) -ℤ pos (x * K))) (λ t. search quote depth 20) tt

    start_falling : g <ℤ pos 0 → (v *ℤ pos y +ℤ g *ℤ pos x) ≤ℤ pos 0 → ReachesAt A v g x y
    start_falling c h = div≤ (j ∷ K ∷ x ∷ y ∷ []) (A ∷ v ∷ g ∷ []) square
        (0≤pos (y * y) ⊠ gap≤ high ⊞ 0≤pos (2 * K) ⊠ gap≤ (pos≤ l) ⊠ gap≤ h ⊞ gap≤ (<ℤ_≤ℤ c) ⊠ 0≤square (pos (j * y) -ℤ pos (x * K))) (λ t. search quote depth 20) tt

  -- z/y is later, and the speed at j/K is not negative and rises, or the speed at z/y is not negative and falls
  module _ (z y : ℕ) (l : j * y ≤ z * K) where
    end_rising : pos 0 ≤ℤ g → pos 0 ≤ℤ (v *ℤ pos K +ℤ g *ℤ pos j) → ReachesAt A v g z y
    end_rising c h = div≤ (j ∷ K ∷ z ∷ y ∷ []) (A ∷ v ∷ g ∷ []) square
        (0≤pos (y * y) ⊠ gap≤ high ⊞ 0≤pos (2 * y) ⊠ gap≤ (pos≤ l) ⊠ gap≤ h ⊞ c ⊠ 0≤square (pos (z * K) -ℤ pos (j * y))) (λ t. search quote depth 20) tt

    end_falling : g <ℤ pos 0 → pos 0 ≤ℤ (v *ℤ pos y +ℤ g *ℤ pos z) → ReachesAt A v g z y
    end_falling c h = div≤ (j ∷ K ∷ z ∷ y ∷ []) (A ∷ v ∷ g ∷ []) square
        (0≤pos (y * y) ⊠ gap≤ high ⊞ 0≤pos (2 * K) ⊠ gap≤ (pos≤ l) ⊠ gap≤ h ⊞ gap≤ (<ℤ_≤ℤ c) ⊠ 0≤square (pos (z * K) -ℤ pos (j * y))) (λ t. search quote depth 20) tt

  -- the same at the second's end, which is later: there it is above A
  module _ (l : suc j ≤ K) where
    above_rising : pos 0 ≤ℤ g → pos 0 <ℤ (v *ℤ pos K +ℤ g *ℤ pos j) → A <ℤ (pos 2 *ℤ v +ℤ g)
    above_rising c h = ⊎_elim (λ t. t)
        (λ (t : (pos 2 *ℤ v +ℤ g) ≤ℤ A). absurd (<ℤ_irrefl {a = pos 0} (by< (j ∷ K ∷ []) (A ∷ v ∷ g ∷ [])
        (0≤pos (K * K) ⊠ gap≤ t ⊞ gap≤ high ⊞ 0≤pos 2 ⊠ gap≤ (pos≤ l) ⊠ gap< h ⊞ 0≤pos 2 ⊠ gap≤ (pos≤ l) ⊞ 0≤pos 2 ⊠ gap< h ⊞ c ⊠ 0≤square (pos K -ℤ pos j) ⊞ 0≤pos 1) (λ w. search quote depth 20) tt)))
        (split< A (pos 2 *ℤ v +ℤ g))

    above_falling : g <ℤ pos 0 → pos 0 ≤ℤ (v +ℤ g) → A <ℤ (pos 2 *ℤ v +ℤ g)
    above_falling c h = ⊎_elim (λ t. t)
        (λ (t : (pos 2 *ℤ v +ℤ g) ≤ℤ A). absurd (<ℤ_irrefl {a = pos 0} (by< (j ∷ K ∷ []) (A ∷ v ∷ g ∷ [])
        (0≤pos (K * K) ⊠ gap≤ t ⊞ gap≤ high ⊞ 0≤pos (2 * K) ⊠ (gap≤ (pos≤ l) ⊞ 0≤pos 1) ⊠ gap≤ h ⊞ gap< c ⊠ 0≤square (pos K -ℤ pos j) ⊞ 0≤square (pos K -ℤ pos (suc j)) ⊞ 0≤pos 2 ⊠ gap≤ (pos≤ l)) (λ w. search quote depth 20) tt)))
        (split< A (pos 2 *ℤ v +ℤ g))

  top : g <ℤ pos 0 → pos 0 ≤ℤ (v *ℤ v +ℤ g *ℤ A)
  top c = div≤ (j ∷ K ∷ []) (A ∷ v ∷ g ∷ []) square (0≤square (v *ℤ pos K +ℤ g *ℤ pos j) ⊞ gap≤ (<ℤ_≤ℤ c) ⊠ gap≤ high) (λ w. search quote depth 20) tt

  ends_or_top : (part : Part) → InPart part j K → Reaches A v g part
  ends_or_top Nowhere i = i
  ends_or_top (FromTo x z y) i = ⊎_elim
      (λ (c : g <ℤ pos 0). ⊎_elim
      (λ (h : pos 0 <ℤ (v *ℤ pos y +ℤ g *ℤ pos x)). ⊎_elim
      (λ (k : (v *ℤ pos y +ℤ g *ℤ pos z) <ℤ pos 0). inr (inr (record { curved = c; rising = <ℤ_≤ℤ h; top = top c }, <ℤ_≤ℤ k)))
      (λ k. inr (inl (end_falling z y i.1 c k)))
      (split< (v *ℤ pos y +ℤ g *ℤ pos z) (pos 0)))
      (λ h. inl (start_falling x y i.0 c h))
      (split< (pos 0) (v *ℤ pos y +ℤ g *ℤ pos x)))
      (λ (c : pos 0 ≤ℤ g). ⊎_elim
      (λ (h : pos 0 <ℤ (v *ℤ pos K +ℤ g *ℤ pos j)). inr (inl (end_rising z y i.1 c (<ℤ_≤ℤ h))))
      (λ h. inl (start_rising x y i.0 c h))
      (split< (pos 0) (v *ℤ pos K +ℤ g *ℤ pos j)))
      (split< g (pos 0))
  ends_or_top (From x y) i = ⊎_elim
      (λ (c : g <ℤ pos 0). ⊎_elim
      (λ (h : pos 0 <ℤ (v *ℤ pos y +ℤ g *ℤ pos x)). ⊎_elim
      (λ (k : (v +ℤ g) <ℤ pos 0). inr (inr (record { curved = c; rising = <ℤ_≤ℤ h; top = top c }, k)))
      (λ k. inr (inl (above_falling i.1 c k)))
      (split< (v +ℤ g) (pos 0)))
      (λ h. inl (start_falling x y i.0 c h))
      (split< (pos 0) (v *ℤ pos y +ℤ g *ℤ pos x)))
      (λ (c : pos 0 ≤ℤ g). ⊎_elim
      (λ (h : pos 0 <ℤ (v *ℤ pos K +ℤ g *ℤ pos j)). inr (inl (above_rising i.1 c h)))
      (λ h. inl (start_rising x y i.0 c h))
      (split< (pos 0) (v *ℤ pos K +ℤ g *ℤ pos j)))
      (split< g (pos 0))

-- ---- and back: the top is at v/−g, a rational time
top_time : (A v g : ℤ) (part : Part) (x y : ℕ) → 1 ≤ y → Tops A v g x y → ((j K : ℕ) → 1 ≤ K → v ≡ pos j → g ≡ neg_ℤ (pos K) → x * K ≤ j * y → InPart part j K) → Reached A v g part
top_time A v (pos g) part x y py t f = absurd (omega (arith, nat< {m = g} {n = 0} t.curved))
top_time A (negsuc v) (negsuc g) part x y py t f = absurd (<ℤ_irrefl {a = pos 0} (by< (v ∷ g ∷ x ∷ y ∷ []) [] (gap≤ t.rising ⊞ gap≤ (pos≤ py) ⊞ 0≤pos (v * y) ⊞ 0≤pos (suc g * x)) (λ w. search quote depth 20) tt))
top_time A (pos v) (negsuc g) part x y py t f = record {
  j = v;
  K = suc g;
  divisor = omega arith;
  during = f v (suc g) (omega arith) refl refl (nat≤ {m = x * suc g} {n = v * y} (by≤ (v ∷ g ∷ x ∷ y ∷ []) [] (gap≤ t.rising) (λ w. search quote depth 20) tt));
  high = by≤ (v ∷ g ∷ []) (A ∷ []) (0≤pos (suc g) ⊠ gap≤ t.top) (λ w. search quote depth 20) tt;
}

module _ (v g : ℤ) (j K : ℕ) (e : v ≡ pos j) (f : g ≡ neg_ℤ (pos K)) where
  top_before : (z y : ℕ) → (v *ℤ pos y +ℤ g *ℤ pos z) ≤ℤ pos 0 → j * y ≤ z * K
  top_before z y h = nat≤ {m = j * y} {n = z * K} (by≤ (j ∷ K ∷ z ∷ y ∷ []) (v ∷ g ∷ []) (gap≤ h ⊞ gap≤ (≤ℤ-of-≡ (sym e)) ⊠ 0≤pos y ⊞ gap≤ (≤ℤ-of-≡ (sym f)) ⊠ 0≤pos z) (λ w. search quote depth 20) tt)

  top_inside : (v +ℤ g) <ℤ pos 0 → j < K
  top_inside h = nat< {m = j} {n = K} (by< (j ∷ K ∷ []) (v ∷ g ∷ []) (gap< h ⊞ gap≤ (≤ℤ-of-≡ (sym e)) ⊞ gap≤ (≤ℤ-of-≡ (sym f))) (λ w. search quote depth 20) tt)

-- ---- and so close to the second's end as makes no difference
near_end : (A v g : ℤ) (x y : ℕ) → x < y → A <ℤ (pos 2 *ℤ v +ℤ g) → Reached A v g (From x y)
near_end A v g x y l h =
    let P = nat_abs (v +ℤ g) in
    let H = nat_abs g in
    let T = 2 * P + H + y in
    record {
      j = T;
      K = suc T;
      divisor = omega arith;
      during = (omega (arith, mul-le-mul_right (suc T) l), omega arith);
      high = by≤ (nat_abs (v +ℤ g) ∷ nat_abs g ∷ y ∷ []) (A ∷ v ∷ g ∷ [])
          (0≤pos (suc T * suc T) ⊠ gap< h ⊞ 0≤pos (2 * suc T) ⊠ gap≤ (nat_abs_hi (v +ℤ g) P (omega arith)) ⊞ gap≤ (nat_abs_lo g H (omega arith))) (λ w. search quote depth 20) tt;
    }

at_end_or_top : (A v g : ℤ) (part : Part) → Proper part → Reaches A v g part → Reached A v g part
at_end_or_top A v g Nowhere q r = absurd r
at_end_or_top A v g (FromTo x z y) q (inl r) = record { j = x; K = y; divisor = omega (arith, q.1); during = (omega arith, mul-le-mul_right y q.0); high = r }
at_end_or_top A v g (FromTo x z y) q (inr (inl r)) = record { j = z; K = y; divisor = omega (arith, q.1); during = (mul-le-mul_right y q.0, omega arith); high = r }
at_end_or_top A v g (FromTo x z y) q (inr (inr r)) = top_time A v g (FromTo x z y) x y (omega (arith, q.1)) r.0
    (λ j K p e f l. (l, top_before v g j K e f z y r.1))
at_end_or_top A v g (From x y) q (inl r) = record { j = x; K = y; divisor = omega arith; during = (omega arith, q); high = r }
at_end_or_top A v g (From x y) q (inr (inl r)) = near_end A v g x y q r
at_end_or_top A v g (From x y) q (inr (inr r)) = top_time A v g (From x y) x y (omega arith) r.0 (λ j K p e f l. (l, top_inside v g j K e f r.1))

pub reached_exactly : (A v g : ℤ) (part : Part) → Proper part → Reached A v g part ↔ Reaches A v g part
reached_exactly A v g part q = (λ r. ends_or_top A v g r.j r.K r.divisor r.high part r.during, at_end_or_top A v g part q)
