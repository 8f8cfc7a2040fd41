-- The band of a sensed question: its height is outside the band at every rational time of the window exactly if no conflict time exists on one side or on both. The
-- premises are a ≤ b, that the targets are in order, b ≥ 1, and k ≥ 1. Assumes nothing.
use mathlib.Core.List.{[], ◌∷◌}
use mathlib.Core.Logic.{◌↔◌, inl, inr, ⊎_elim}
use Prim.Native.Nat.{ℕ, ◌≤◌}
use lib.IntN.{pos, ◌*ℤ◌}
use lib.Signed.{◌≤ℤ◌, clash_ℤ}
use Rattle.integers.proofs.Quotation.{quote}
use Rattle.integers.proofs.Certificates.{by≤, gap≤, split<}
use Rattle.instant.specs.Order.{◌÷◌}
use Rattle.path.specs.declared.SensedQuestion.{SensedQuestion}
use Rattle.path.specs.declared.Side.TheVariants.{Lower, Upper}
use Rattle.path.specs.Letters.{k, wh, q, a, upper_q, b}
use Rattle.path.specs.Paths.{lower_path, upper_path}
use Rattle.path.specs.Conflict.{Conflict, ConflictExists}
use Rattle.band.specs.Band.{Height, Below, Above, band_at, Outside, WindowTime, AlwaysOutside}
use Rattle.band.proofs.PathOrder.{paths_ordered}
use Rattle.band.proofs.Meeting.{meeting}

-- ---- inside the band is a conflict on both sides at once
module _ (s : SensedQuestion) (n m : ℕ) where
  abbrev from : Height
  from = (band_at s n m).from

  abbrev to : Height
  to = (band_at s n m).to

  lower_inside : Conflict Lower s n m → from.number ≤ℤ (wh s *ℤ pos from.divisor)
  lower_inside c = by≤ (a s ∷ b s ∷ m ∷ k s ∷ []) (wh s ∷ lower_path s n m ∷ upper_path s n m ∷ []) (gap≤ c.vertical) (λ v. search quote depth 20) tt

  upper_inside : Conflict Upper s n m → (wh s *ℤ pos to.divisor) ≤ℤ to.number
  upper_inside c = by≤ (a s ∷ b s ∷ m ∷ k s ∷ []) (wh s ∷ lower_path s n m ∷ upper_path s n m ∷ []) (gap≤ c.vertical) (λ v. search quote depth 20) tt

  not_outside : Conflict Lower s n m → Conflict Upper s n m → ¬ Outside (wh s) (band_at s n m)
  not_outside x y o = ⊎_elim (λ (l : Below (wh s) from). clash_ℤ l (lower_inside x)) (λ (l : Above (wh s) to). clash_ℤ l (upper_inside y)) o

  inside_lower : WindowTime s n m → from.number ≤ℤ (wh s *ℤ pos from.divisor) → Conflict Lower s n m
  inside_lower w l = record {
    window = record { near = w.near; intime = w.intime };
    vertical = by≤ (a s ∷ b s ∷ m ∷ k s ∷ []) (wh s ∷ lower_path s n m ∷ upper_path s n m ∷ []) (gap≤ l) (λ v. search quote depth 20) tt;
  }

  inside_upper : WindowTime s n m → (wh s *ℤ pos to.divisor) ≤ℤ to.number → Conflict Upper s n m
  inside_upper w l = record {
    window = record { near = w.near; intime = w.intime };
    vertical = by≤ (a s ∷ b s ∷ m ∷ k s ∷ []) (wh s ∷ lower_path s n m ∷ upper_path s n m ∷ []) (gap≤ l) (λ v. search quote depth 20) tt;
  }

-- ---- without a conflict on each side it is outside, whatever the paths
pub none_outside : (s : SensedQuestion) → ¬ (ConflictExists Lower s × ConflictExists Upper s) → AlwaysOutside s
none_outside s none n m w = ⊎_elim
    (λ (l : Below (wh s) (from s n m)). inl l)
    (λ l. ⊎_elim
    (λ (h : Above (wh s) (to s n m)). inr h)
    (λ h. absurd (none (
      (n ÷ m, record { divisor = w.divisor; conflict = inside_lower s n m w l }),
      (n ÷ m, record { divisor = w.divisor; conflict = inside_upper s n m w h }),
    )))
    (split< (to s n m).number (wh s *ℤ pos (to s n m).divisor)))
    (split< (wh s *ℤ pos (from s n m).divisor) (from s n m).number)

-- ---- and always outside, not on each side, as the paths do not cross and the band has thickness
module _ (s : SensedQuestion) (strengths : a s ≤ b s) (targets : q s ≤ℤ upper_q s) (pb : 1 ≤ b s) (pk : 1 ≤ k s) where
  pub outside_none : AlwaysOutside s → ¬ (ConflictExists Lower s × ConflictExists Upper s)
  outside_none out both =
      let x = both.0 in
      let y = both.1 in
      let z = meeting s (paths_ordered s strengths targets) pb pk x.0.n x.0.m y.0.n y.0.m x.1.divisor y.1.divisor x.1.conflict y.1.conflict in
      not_outside s z.n z.m z.lower z.upper
      (out z.n z.m (record { divisor = z.divisor; near = z.lower.window.near; intime = z.lower.window.intime }))

  pub outside_exactly : AlwaysOutside s ↔ (¬ (ConflictExists Lower s × ConflictExists Upper s))
  outside_exactly = (outside_none, none_outside s)
