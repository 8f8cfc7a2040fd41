-- The test of what a quadratic reaches within a second is the same with the value brought into the range that it can reach. Assumes nothing.
use mathlib.Core.Path.{◌≡◌}
use mathlib.Core.List.{[], ◌∷◌}
use mathlib.Core.Logic.Iff
use mathlib.Core.Logic.{◌↔◌}
use Prim.Native.Nat.{ℕ, ◌+◌, ◌*◌, ◌<◌, ◌≤◌}
use native.Mathlib.Omega.{arith}
use lib.IntN.{ℤ, pos, neg_ℤ, ◌*ℤ◌, nat_abs}
use lib.Signed.{◌≤ℤ◌, ◌<ℤ◌, le_z, clash_ℤ}
use Rattle.std.proofs.lemmas.Bool.Decides.{Decides-like, same_from_decides}
use Rattle.integers.specs.Extremes.{minℤ}
use Rattle.integers.proofs.Difference.{cond_by}
use Rattle.integers.proofs.Quotation.{quote}
use Rattle.integers.proofs.Certificates.{by≤, by<, gap≤, ◌⊞◌, ◌⊠◌, 0≤pos, pos≤}
use Rattle.integers.proofs.Laws.{≤ℤ_trans, nat_abs_hi, nat_abs_lo, maxℤ_right, minℤ_left}
use Rattle.flight.specs.Flight.{stretch_height}
use Rattle.flight.specs.declared.Part.{Part}
use Rattle.flight.specs.inner.Parts.{ReachesAt, Proper}
use Rattle.flight.specs.inner.Tests.{reaches}
use Rattle.flight.specs.inner.Clamped.{clamped}
use Rattle.flight.proofs.Reach.{Reached, reached_exactly}
use Rattle.flight.proofs.Crossing.{part_inside}
use Rattle.flight.proofs.InsideTests.{reaches_decided}

module _ (L : ℕ) (A v g : ℤ) (large : 2 * nat_abs v + nat_abs g < L) (part : Part) (proper : Proper part) where
  module _ (j K : ℕ) (pK : 1 ≤ K) (l : j ≤ K) where
    abbrev Q : ℤ
    Q = stretch_height v g j K

    below : Q <ℤ (pos L *ℤ pos K *ℤ pos K)
    below = by< (L ∷ j ∷ K ∷ nat_abs v ∷ nat_abs g ∷ []) (v ∷ g ∷ [])
        (0≤pos (K * K) ⊠ gap≤ (pos≤ large) ⊞ 0≤pos (2 * j * K) ⊠ gap≤ (nat_abs_hi v (nat_abs v) (omega arith)) ⊞ 0≤pos (j * j) ⊠ gap≤ (nat_abs_hi g (nat_abs g) (omega arith))
        ⊞ gap≤ (pos≤ l) ⊠ 0≤pos (2 * nat_abs v * K) ⊞ gap≤ (pos≤ l) ⊠ 0≤pos (nat_abs g * (K + j)) ⊞ gap≤ (pos≤ pK) ⊠ 0≤pos (K + 1)) (λ w. search quote depth 20) tt

    above : (neg_ℤ (pos L) *ℤ pos K *ℤ pos K) ≤ℤ Q
    above = by≤ (L ∷ j ∷ K ∷ nat_abs v ∷ nat_abs g ∷ []) (v ∷ g ∷ [])
        (0≤pos (K * K) ⊠ gap≤ (pos≤ large) ⊞ 0≤pos (2 * j * K) ⊠ gap≤ (nat_abs_lo v (nat_abs v) (omega arith)) ⊞ 0≤pos (j * j) ⊠ gap≤ (nat_abs_lo g (nat_abs g) (omega arith))
        ⊞ gap≤ (pos≤ l) ⊠ 0≤pos (2 * nat_abs v * K) ⊞ gap≤ (pos≤ l) ⊠ 0≤pos (nat_abs g * (K + j))) (λ w. search quote depth 20) tt

    grow : (x y : ℤ) → x ≤ℤ y → (x *ℤ pos K *ℤ pos K) ≤ℤ (y *ℤ pos K *ℤ pos K)
    grow x y h = by≤ (K ∷ []) (x ∷ y ∷ []) (0≤pos (K * K) ⊠ gap≤ h) (λ w. search quote depth 20) tt

    brought : ReachesAt A v g j K → ReachesAt (clamped L A) v g j K
    brought h = cond_by (le_z (neg_ℤ (pos L)) (minℤ A (pos L))) (minℤ A (pos L)) (neg_ℤ (pos L)) (λ z. ReachesAt z v g j K)
        (λ t. ≤ℤ_trans (grow (minℤ A (pos L)) A (minℤ_left A (pos L))) h) (λ t. above)

    back : ReachesAt (clamped L A) v g j K → ReachesAt A v g j K
    back h =
        let m : ReachesAt (minℤ A (pos L)) v g j K = ≤ℤ_trans (grow (minℤ A (pos L)) (clamped L A) (maxℤ_right (neg_ℤ (pos L)) (minℤ A (pos L)))) h in
        cond_by (le_z A (pos L)) A (pos L) (λ z. ReachesAt z v g j K → ReachesAt A v g j K) (λ t x. x) (λ t x. clash_ℤ below x) m

  same_reached : Reached A v g part ↔ Reached (clamped L A) v g part
  same_reached = (
    λ r. record { j = r.j; K = r.K; divisor = r.divisor; during = r.during; high = brought r.j r.K r.divisor (part_inside part r.j r.K proper r.during) r.high },
    λ r. record { j = r.j; K = r.K; divisor = r.divisor; during = r.during; high = back r.j r.K r.divisor (part_inside part r.j r.K proper r.during) r.high },
  )

  pub reaches_clamped : reaches A v g part ≡ reaches (clamped L A) v g part
  reaches_clamped =
      let e = Iff.trans (Iff.symm (reached_exactly A v g part proper)) (Iff.trans same_reached (reached_exactly (clamped L A) v g part proper)) in
      same_from_decides (reaches A v g part) (reaches (clamped L A) v g part) (Decides-like _ e.0 e.1 (reaches_decided A v g part)) (reaches_decided (clamped L A) v g part)
