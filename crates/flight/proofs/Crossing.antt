-- A quadratic is from A to B at a rational time of a part of a second exactly if it reaches up to A and down to B there, A and B being 2 apart or more: on
-- a grid that is fine enough it cannot pass from above B to below A in a step. Assumes nothing.
use mathlib.Core.Path.{◌≡◌, subst}
use mathlib.Core.List.{[], ◌∷◌}
use mathlib.Core.Logic.{◌⊎◌, inl, inr, ⊎_elim, ◌↔◌}
use Prim.Native.Nat.{ℕ, suc, ◌+◌, ◌*◌, ◌<◌, ◌≤◌}
use native.Mathlib.Nat.{mul-le-mul_right, mul-pos, le_of_mul-le-mul_right}
use native.Mathlib.Omega.{arith}
use lib.IntN.{ℤ, pos, neg_ℤ, ◌+ℤ◌, ◌*ℤ◌, nat_abs}
use lib.Signed.{◌≤ℤ◌, ◌<ℤ◌, clash_ℤ}
use Rattle.integers.proofs.Quotation.{quote}
use Rattle.integers.proofs.Certificates.{by≤, gap≤, gap<, ◌⊞◌, ◌⊠◌, 0≤pos, pos≤, split<}
use Rattle.integers.proofs.Laws.{split≤, nat_abs_hi, nat_abs_lo}
use Rattle.grid.proofs.Neighbours.{neighbours}
use Rattle.flight.specs.Flight.{stretch_height}
use Rattle.flight.specs.declared.Part.{Part}
use Rattle.flight.specs.inner.Parts.{InPart, Crosses, Proper}
use Rattle.flight.specs.declared.Part.TheVariants.{Nowhere, FromTo, From}
use Rattle.flight.proofs.Reach.{Reached, reached_exactly}

pub record Crossed (A B v g : ℤ) (part : Part) : Type 0 where
  pub j : ℕ
  pub K : ℕ
  pub divisor : 1 ≤ K
  pub during : InPart part j K
  pub low : (A *ℤ pos K *ℤ pos K) ≤ℤ stretch_height v g j K
  pub high : stretch_height v g j K ≤ℤ (B *ℤ pos K *ℤ pos K)

-- ---- parts over one denominator
part_scaled : (part : Part) (j K x : ℕ) → 1 ≤ x → InPart part j K → InPart part (j * x) (K * x)
part_scaled Nowhere j K x p i = i
part_scaled (FromTo s e y) j K x p i = (omega (arith, mul-le-mul_right x i.0), omega (arith, mul-le-mul_right x i.1))
part_scaled (From s y) j K x p i = (omega (arith, mul-le-mul_right x i.0), omega (arith, mul-le-mul_right x i.1))

part_within : (part : Part) (j i e K : ℕ) → j ≤ i → i ≤ e → InPart part j K → InPart part e K → InPart part i K
part_within Nowhere j i e K l h a b = a
part_within (FromTo s z y) j i e K l h a b = (omega (arith, a.0, mul-le-mul_right y l), omega (arith, b.1, mul-le-mul_right y h))
part_within (From s y) j i e K l h a b = (omega (arith, a.0, mul-le-mul_right y l), omega (arith, b.1))

pub part_inside : (part : Part) (j K : ℕ) → Proper part → InPart part j K → j ≤ K
part_inside Nowhere j K q i = absurd i
part_inside (FromTo x z y) j K q i = le_of_mul-le-mul_right {m = j} {n = K} {k = y} (omega (arith, i.1, mul-le-mul_right K q.1)) (omega (arith, q.1))
part_inside (From x y) j K q i = omega (arith, i.1)

-- ---- one step of the grid changes the quadratic by no more than 2*M², where M is no less than the sizes of g and v together
module _ (v g : ℤ) (i M : ℕ) (l : suc i ≤ M) (fine : nat_abs v + nat_abs g ≤ M) where
  abbrev here : ℤ
  here = stretch_height v g i M

  abbrev next : ℤ
  next = stretch_height v g (suc i) M

  step_up : next ≤ℤ (here +ℤ pos 2 *ℤ pos M *ℤ pos M)
  step_up = by≤ (i ∷ M ∷ nat_abs v ∷ nat_abs g ∷ []) (v ∷ g ∷ [])
      (0≤pos (2 * M) ⊠ gap≤ (pos≤ fine) ⊞ 0≤pos (2 * M) ⊠ gap≤ (nat_abs_hi v (nat_abs v) (omega arith)) ⊞ 0≤pos (2 * i + 1) ⊠ gap≤ (nat_abs_hi g (nat_abs g) (omega arith)) ⊞ 0≤pos (2 * nat_abs g) ⊠ gap≤ (pos≤ l)) (λ w. search quote depth 20) tt

  step_down : here ≤ℤ (next +ℤ pos 2 *ℤ pos M *ℤ pos M)
  step_down = by≤ (i ∷ M ∷ nat_abs v ∷ nat_abs g ∷ []) (v ∷ g ∷ [])
      (0≤pos (2 * M) ⊠ gap≤ (pos≤ fine) ⊞ 0≤pos (2 * M) ⊠ gap≤ (nat_abs_lo v (nat_abs v) (omega arith)) ⊞ 0≤pos (2 * i + 1) ⊠ gap≤ (nat_abs_lo g (nat_abs g) (omega arith)) ⊞ 0≤pos (2 * nat_abs g) ⊠ gap≤ (pos≤ l)) (λ w. search quote depth 20) tt

-- what is a step from above B is not below A
not_below : (A B y z : ℤ) (M : ℕ) → (A +ℤ pos 2) ≤ℤ B → (B *ℤ pos M *ℤ pos M) <ℤ y → y ≤ℤ (z +ℤ pos 2 *ℤ pos M *ℤ pos M) → (A *ℤ pos M *ℤ pos M) ≤ℤ z
not_below A B y z M w h n = by≤ (M ∷ []) (A ∷ B ∷ y ∷ z ∷ []) (gap< h ⊞ gap≤ n ⊞ 0≤pos (M * M) ⊠ gap≤ w) (λ t. search quote depth 20) tt

module _ (A B v g : ℤ) (part : Part) (wide : (A +ℤ pos 2) ≤ℤ B) (proper : Proper part) where
  module _ (M : ℕ) (pM : 1 ≤ M) (fine : nat_abs v + nat_abs g ≤ M) where
    abbrev Q : ℕ → ℤ
    Q i = stretch_height v g i M

    abbrev Above : ℕ → Type 0
    Above i = (B *ℤ pos M *ℤ pos M) <ℤ Q i

    abbrev Below : ℕ → Type 0
    Below i = Q i ≤ℤ (B *ℤ pos M *ℤ pos M)

    above_below : (i : ℕ) → Above i ⊎ Below i
    above_below i = split< (B *ℤ pos M *ℤ pos M) (Q i)

    below_above : (i : ℕ) → Below i ⊎ Above i
    below_above i = ⊎_elim (λ t. inr t) (λ t. inl t) (above_below i)

    found : (i : ℕ) → InPart part i M → (A *ℤ pos M *ℤ pos M) ≤ℤ Q i → Below i → Crossed A B v g part
    found i d a b = record { j = i; K = M; divisor = pM; during = d; low = a; high = b }

    on_grid : (n e : ℕ) → InPart part n M → InPart part e M → (A *ℤ pos M *ℤ pos M) ≤ℤ Q n → Below e → Crossed A B v g part
    on_grid n e dn de hn he = ⊎_elim
        (λ (up : Above n). ⊎_elim
        (λ (l : n ≤ e).
        let c = neighbours Above Below above_below (λ i. clash_ℤ) n up e l he in
        found (suc c.i) (part_within part n (suc c.i) e M (omega (arith, c.from)) c.to dn de)
        (not_below A B (Q c.i) (Q (suc c.i)) M wide c.here (step_down v g c.i M (omega (arith, c.to, part_inside part e M proper de)) fine)) c.next)
        (λ (l : e < n).
        let c = neighbours Below Above below_above (λ i x y. clash_ℤ y x) e he n (omega arith) up in
        found c.i (part_within part e c.i n M c.from (omega (arith, c.to)) de dn)
        (not_below A B (Q (suc c.i)) (Q c.i) M wide c.next (step_up v g c.i M (omega (arith, c.to, part_inside part n M proper dn)) fine)) c.here)
        (split≤ n e))
        (λ (low : Below n). found n dn hn low)
        (above_below n)

  scaled_low : (j K x : ℕ) → (A *ℤ pos K *ℤ pos K) ≤ℤ stretch_height v g j K → (A *ℤ pos (K * x) *ℤ pos (K * x)) ≤ℤ stretch_height v g (j * x) (K * x)
  scaled_low j K x h = by≤ (j ∷ K ∷ x ∷ []) (A ∷ v ∷ g ∷ []) (0≤pos (x * x) ⊠ gap≤ h) (λ t. search quote depth 20) tt

  scaled_high : (j K x : ℕ) → (neg_ℤ B *ℤ pos K *ℤ pos K) ≤ℤ stretch_height (neg_ℤ v) (neg_ℤ g) j K → stretch_height v g (j * x) (K * x) ≤ℤ (B *ℤ pos (K * x) *ℤ pos (K * x))
  scaled_high j K x h = by≤ (j ∷ K ∷ x ∷ []) (B ∷ v ∷ g ∷ []) (0≤pos (x * x) ⊠ gap≤ h) (λ t. search quote depth 20) tt

  turned_over : (j K : ℕ) → stretch_height v g j K ≤ℤ (B *ℤ pos K *ℤ pos K) → (neg_ℤ B *ℤ pos K *ℤ pos K) ≤ℤ stretch_height (neg_ℤ v) (neg_ℤ g) j K
  turned_over j K h = by≤ (j ∷ K ∷ []) (B ∷ v ∷ g ∷ []) (gap≤ h) (λ t. search quote depth 20) tt

  crossing : Reached A v g part → Reached (neg_ℤ B) (neg_ℤ v) (neg_ℤ g) part → Crossed A B v g part
  crossing x y =
      let S = suc (nat_abs v + nat_abs g) in
      let K = x.K in
      let K' = y.K in
      let M = K * (K' * S) in
      let same : K' * (K * S) ≡ M = omega arith in
      let size : 1 * S ≤ K * K' * S = mul-le-mul_right S (mul-pos x.divisor y.divisor) in
      let ps : 1 ≤ K' * S = mul-pos y.divisor (omega arith) in
      let ps' : 1 ≤ K * S = mul-pos x.divisor (omega arith) in
      on_grid M (omega arith) (omega arith) (x.j * (K' * S)) (y.j * (K * S)) (part_scaled part x.j K (K' * S) ps x.during)
      (subst (λ (z : ℕ). InPart part (y.j * (K * S)) z) same (part_scaled part y.j K' (K * S) ps' y.during))
      (scaled_low x.j K (K' * S) x.high)
      (subst (λ (z : ℕ). stretch_height v g (y.j * (K * S)) z ≤ℤ (B *ℤ pos z *ℤ pos z)) same (scaled_high y.j K' (K * S) y.high))

  pub crossed_exactly : Crossed A B v g part ↔ Crosses A B v g part
  crossed_exactly = (
    λ x. record {
      up = (reached_exactly A v g part proper).0 (record { j = x.j; K = x.K; divisor = x.divisor; during = x.during; high = x.low });
      down = (reached_exactly (neg_ℤ B) (neg_ℤ v) (neg_ℤ g) part proper).0 (record { j = x.j; K = x.K; divisor = x.divisor; during = x.during; high = turned_over x.j x.K x.high });
    },
    λ r. crossing ((reached_exactly A v g part proper).1 r.up) ((reached_exactly (neg_ℤ B) (neg_ℤ v) (neg_ℤ g) part proper).1 r.down),
  )
