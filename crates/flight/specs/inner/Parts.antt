-- Definitions that only inner contracts use; an instructor need not read them.
-- Inside the puck during a second, as a program can test it. From n to n + 1 the intruder is near during one part of the second, and the height gained since n
-- is a quadratic, v × τ + g × τ²/2: the flight is inside at a rational time exactly if on that part the quadratic reaches up to the band from k below to k
-- above the intruder, and down to it.
use Rattle.std.specs.Prelude.{cond, List, ◌⊎◌, ℕ, zero, suc, ◌*◌, ◌≤◌, ◌<◌, leb, ltb, ℤ, pos, negsuc, neg_ℤ, ◌+ℤ◌, ◌-ℤ◌, ◌*ℤ◌, nat_abs, ◌≤ℤ◌, ◌<ℤ◌}
use Rattle.integers.specs.Extremes.{max0}
use Rattle.path.specs.declared.SensedQuestion.{SensedQuestion}
use Rattle.path.specs.Letters.{c, p, k, wh, u}
use Rattle.path.specs.Window.{distance_at}
use Rattle.flight.specs.declared.Stretch.{Stretch}
use Rattle.flight.specs.declared.Part.{Part}
use Rattle.flight.specs.declared.Part.TheVariants.{Nowhere, FromTo, From}
use Rattle.flight.specs.Flight.{acceleration_at, speed_at, height_at, stretch_height}

-- j/K is in the part
abbrev pub InPart : Part → ℕ → ℕ → Type 0
InPart Nowhere j K = ⊥
InPart (FromTo x z y) j K = (x * K ≤ j * y) × (j * y ≤ z * K)
InPart (From x y) j K = (x * K ≤ j * y) × (j < K)

-- what is so of each part that occurs: its ends are in order and below 1; and y is at most B
abbrev pub Proper : Part → Type 0
Proper Nowhere = Unit {0}
Proper (FromTo x z y) = (x ≤ z) × (z < y)
Proper (From x y) = x < y

abbrev pub DivisorWithin : ℕ → Part → Type 0
DivisorWithin B Nowhere = Unit {0}
DivisorWithin B (FromTo x z y) = y ≤ B
DivisorWithin B (From x y) = y ≤ B

-- where |R − c × τ| ≤ p, R being the distance at the second's first instant: from (R − p)/c to (R + p)/c
abbrev pub part_up_to : ℕ → ℕ → ℤ → Part
part_up_to c x (negsuc z) = Nowhere
part_up_to c x (pos z) = cond (leb c x) Nowhere (cond (ltb z c) (FromTo x z c) (From x c))

abbrev pub near_part : ℕ → ℕ → ℤ → Part
near_part zero p R = cond (leb (nat_abs R) p) (From 0 1) Nowhere
near_part (suc c) p R = part_up_to (suc c) (max0 (R -ℤ pos p)) (R +ℤ pos p)

-- ---- on a part the quadratic 2 × v × τ + g × τ² reaches A: at an end, or at its top; the end that the part does not own must be above A
module _ (A v g : ℤ) where
  pub record Tops (x y : ℕ) : Type 0 where
    pub curved : g <ℤ pos 0
    pub rising : pos 0 ≤ℤ (v *ℤ pos y +ℤ g *ℤ pos x)
    pub top : pos 0 ≤ℤ (v *ℤ v +ℤ g *ℤ A)

  abbrev pub ReachesAt : ℕ → ℕ → Type 0
  ReachesAt x y = (A *ℤ pos y *ℤ pos y) ≤ℤ stretch_height v g x y

  abbrev pub Reaches : Part → Type 0
  Reaches Nowhere = ⊥
  Reaches (FromTo x z y) = ReachesAt x y ⊎ (ReachesAt z y ⊎ (Tops x y × ((v *ℤ pos y +ℤ g *ℤ pos z) ≤ℤ pos 0)))
  Reaches (From x y) = ReachesAt x y ⊎ ((A <ℤ (pos 2 *ℤ v +ℤ g)) ⊎ (Tops x y × ((v +ℤ g) <ℤ pos 0)))

-- up to A, and down to B: the second is the first turned over
pub record Crosses (A B v g : ℤ) (part : Part) : Type 0 where
  pub up : Reaches A v g part
  pub down : Reaches (neg_ℤ B) (neg_ℤ v) (neg_ℤ g) part

-- ---- the second from n to n + 1 of a flight: twice the band's edges are 2 × (w × h ∓ k), measured from the height at n
module _ (s : SensedQuestion) (l : List Stretch) (n : ℕ) where
  abbrev pub band_from : ℤ
  band_from = pos 2 *ℤ (wh s -ℤ pos (k s)) -ℤ height_at (u s) l n 1

  abbrev pub band_to : ℤ
  band_to = pos 2 *ℤ (wh s +ℤ pos (k s)) -ℤ height_at (u s) l n 1

  abbrev pub SecondCrosses : Type 0
  SecondCrosses = Crosses band_from band_to (speed_at (u s) l n 1) (acceleration_at l n 1) (near_part (c s) (p s) (distance_at s n 1))
