-- Where no lower conflict time exists no obeying flight is inside the puck at a rational time up to its end and the limit: the lower path, which is no higher than the
-- flight, would not be beyond the puck's edge there. Where one exists nothing is said of flights: the path of the conflict is one of them, and others keep
-- clear (`proofs/FlightExamples.antt`). Assumes nothing.
use mathlib.Core.List.{List, [], ◌∷◌}
use Prim.Native.Nat.{ℕ, ◌*◌}
use Rattle.integers.proofs.Quotation.{quote}
use Rattle.integers.proofs.Certificates.{by≤, gap≤, ◌⊠◌, 0≤pos}
use Rattle.integers.proofs.Laws.{≤ℤ_trans, nat_abs_lo}
use Rattle.instant.specs.Order.{◌÷◌}
use Rattle.path.specs.declared.SensedQuestion.{SensedQuestion}
use Rattle.path.specs.declared.Side.TheVariants.{Lower}
use Rattle.path.specs.Letters.{k, wh, u, a}
use Rattle.path.specs.Window.{InTime}
use Rattle.path.specs.Conflict.{Conflict, ConflictExists}
use Rattle.flight.specs.declared.Stretch.{Stretch}
use Rattle.flight.specs.Flight.{height_at}
use Rattle.flight.specs.Obeying.{Obeys}
use Rattle.flight.specs.Inside.{height_apart, InsideTime, NeverInside}
use Rattle.flight.proofs.AboveLower.{above_lower}

module _ (s : SensedQuestion) (l : List Stretch) (obeys : Obeys s l) where
  pub inside_conflict : (n m : ℕ) → InTime s.limit n m → InsideTime s l n m → Conflict Lower s n m
  inside_conflict n m intime t = record {
    window = record { near = t.inside.near; intime = intime };
    vertical = ≤ℤ_trans (above_lower s l obeys m t.divisor n t.flown)
        (by≤ (a s ∷ m ∷ k s ∷ []) (wh s ∷ height_at (u s) l n m ∷ []) (0≤pos (a s) ⊠ gap≤ (nat_abs_lo (height_apart s l n m) (2 * m * m * k s) t.inside.level)) (λ z. search quote depth 20) tt);
  }

  pub never_inside : ¬ ConflictExists Lower s → NeverInside s l
  never_inside clear n m intime t = clear (n ÷ m, record { divisor = t.divisor; conflict = inside_conflict n m intime t })
