-- The numbers of a flight and its stretches: how many there are. Assumes nothing.
use mathlib.Core.Path.{◌≡◌, refl, ap, ap₂, ◌∙◌}
use mathlib.Core.Bool.{Bool, ◌&&◌}
use mathlib.Core.List.{List, [], ◌∷◌}
use Prim.Native.Nat.{ℕ, suc, ◌/◌, ◌%◌}
use native.Mathlib.Omega.{arith}
use lib.Dec.{eqb, leb}
use lib.IntN.{ℤ}
use lib.ListN.{length}
use Rattle.limits.specs.Limits.{min_stretches, max_stretches}
use Rattle.flight.specs.FlightLimits.{count_within}
use Rattle.flight.specs.HandedIn.{flight_of, paired}

-- half as many stretches as numbers
pub count : (l : List ℤ) → length (flight_of l) ≡ length l / 2
count [] = omega arith
count (g ∷ []) = omega arith
count (g ∷ t ∷ l) = omega (arith, count l)

-- the numbers are pairs exactly if none is left over
pub pairs : (l : List ℤ) → paired l ≡ eqb (length l % 2) 0
pairs [] = refl
pairs (g ∷ []) = refl
pairs (g ∷ t ∷ l) = pairs l ∙ ap (λ (rest : ℕ). eqb rest 0) {x = length l % 2} {y = suc (suc (length l)) % 2} (omega arith)

pub counted : (l : List ℤ) → (paired l && count_within (flight_of l)) ≡ (eqb (length l % 2) 0 && (leb min_stretches (length l / 2) && leb (length l / 2) max_stretches))
counted l = ap₂ (λ (even : Bool) (n : ℕ). even && (leb min_stretches n && leb n max_stretches)) (pairs l) (count l)
