-- A flight read from numbers: how many stretches, each stretch from its two numbers, also in the sense; and the sizes, stretch by stretch. Assumes nothing.
use mathlib.Core.Path.{◌≡◌, refl, ap, ◌∙◌}
use mathlib.Core.Bool.{false, true≢false}
use mathlib.Core.List.{List, [], ◌∷◌}
use Prim.Native.Nat.{ℕ, zero, suc, ◌*◌, ◌<◌}
use native.Mathlib.Omega.{arith}
use lib.Dec.{T}
use lib.IntN.{ℤ, pos}
use lib.ListN.{length, get_or}
use Rattle.integers.specs.Extremes.{max0}
use Rattle.flight.specs.declared.Stretch.{Stretch}
use Rattle.flight.specs.HandedIn.{flight_of, paired}

-- two numbers to a stretch, and one more where they are not pairs
pub count_handed : (l : List ℤ) → T (paired l) → length l ≡ 2 * length (flight_of l)
count_handed [] t = omega arith
count_handed (g ∷ []) t = absurd t
count_handed (g ∷ x ∷ l) t = omega (arith, count_handed l t)

pub count_odd : (l : List ℤ) → paired l ≡ false → length l ≡ suc (2 * length (flight_of l))
count_odd [] e = absurd (true≢false e)
count_odd (g ∷ []) e = omega arith
count_odd (g ∷ x ∷ l) e = omega (arith, count_odd l e)

-- the stretch i is that of the numbers 2*i and 2*i + 1
abbrev pub handed : List ℤ → ℕ → Stretch
handed l i = record { acceleration = get_or l (2 * i) (pos 0); seconds = max0 (get_or l (suc (2 * i)) (pos 0)) }

pub stretch_handed : (l : List ℤ) (i : ℕ) (z : Stretch) → i < length (flight_of l) → get_or (flight_of l) i z ≡ handed l i
stretch_handed [] i z h = absurd (omega arith)
stretch_handed (g ∷ []) i z h = absurd (omega arith)
stretch_handed (g ∷ x ∷ l) zero z h = refl
stretch_handed (g ∷ x ∷ l) (suc i) z h =
    stretch_handed l i z (omega arith)
    ∙ ap (λ (j : ℕ). record { acceleration = get_or (g ∷ x ∷ l) j (pos 0); seconds = max0 (get_or (g ∷ x ∷ l) (suc j) (pos 0)) }) {x = suc (suc (2 * i))} {y = 2 * suc i} (omega arith)
