-- How far the intruder is above or below the ownship's path on a side: w × (w × h − f(t)), or w × (w × h − j(t)), in grains. s is a sensed question, w its sense; as in
-- `path` a height at n/m stands times 2 × a × m² on the lower side, times 2 × b × m² on the upper.
use Rattle.std.specs.Prelude.{cond, ◌&&◌, ℕ, ◌+◌, ◌*◌, ◌/◌, eqb, leb, ltb, ℤ, pos, nat_abs, ◌-ℤ◌, ◌*ℤ◌, None, Option, Some}
use Rattle.std.specs.Int.Signed.{lt_z}
use Rattle.advisory.specs.declared.Sense.{Sense}
use Rattle.advisory.specs.declared.Sense.TheVariants.{Climb, Descend}
use Rattle.advisory.specs.Sign.{sensed}
use Rattle.instant.specs.declared.Instant.{Instant}
use Rattle.path.specs.declared.SensedQuestion.{SensedQuestion}
use Rattle.path.specs.declared.Side.{Side}
use Rattle.path.specs.declared.Side.TheVariants.{Lower, Upper}
use Rattle.path.specs.Letters.{k, wh, a, b}
use Rattle.path.specs.Paths.{lower_path, upper_path}
use Rattle.meaning.specs.declared.gaps.Direction.{Direction}
use Rattle.meaning.specs.declared.gaps.Direction.TheVariants.{Above, Below}
use Rattle.meaning.specs.declared.gaps.Nearness.{Nearness}
use Rattle.meaning.specs.declared.gaps.Nearness.TheVariants.{Closer, Edge, Farther}
use Rattle.meaning.specs.declared.gaps.Gap.{Gap}

-- what a height at n/m is multiplied by
abbrev pub scale : Side → SensedQuestion → ℕ → ℕ
scale Lower s m = 2 * a s * m * m
scale Upper s m = 2 * b s * m * m

-- w × h − f or w × h − j at n/m, so multiplied
unfoldable pub height_above : Side → SensedQuestion → ℕ → ℕ → ℤ
height_above Lower s n m = pos (scale Lower s m) *ℤ wh s -ℤ lower_path s n m
height_above Upper s n m = pos (scale Upper s m) *ℤ wh s -ℤ upper_path s n m

-- of a gap g: the intruder is above the ownship, or below it, or level
abbrev pub direction_of : ℤ → Option Direction
direction_of g = cond (lt_z (pos 0) g) (Some Above) (cond (lt_z g (pos 0)) (Some Below) None)

-- of sizes: |g| is below k, or k, or above it
abbrev pub nearness_of : ℕ → ℕ → Nearness
nearness_of size half = cond (ltb size half) Closer (cond (eqb size half) Edge Farther)

-- of size/divisor grains: the nearest number of tenths of a foot, which are 6 grains; of two the greater
abbrev pub nearest_tenths : ℕ → ℕ → ℕ
nearest_tenths size divisor = (size + 3 * divisor) / (6 * divisor)

-- but cut, where size/divisor is below k and the nearest tenths are not: what is said to be closer than k has a number below k
abbrev pub tenths_of : ℕ → ℕ → ℕ → ℕ
tenths_of size divisor half =
    cond (ltb size (half * divisor) && leb half (6 * nearest_tenths size divisor)) (size / (6 * divisor)) (nearest_tenths size divisor)

-- of g/divisor grains, by k
abbrev pub gap_of : ℤ → ℕ → ℕ → Gap
gap_of g divisor half = record {
  direction = direction_of g;
  tenths = tenths_of (nat_abs g) divisor half;
  nearness = nearness_of (nat_abs g) (half * divisor);
}

-- the direction in which a side is clear: more than k beyond the lower path the intruder is below where the ownship climbs
abbrev pub clear_direction : Side → Sense → Direction
clear_direction Lower Climb = Below
clear_direction Lower Descend = Above
clear_direction Upper Climb = Above
clear_direction Upper Descend = Below

-- at an instant
unfoldable pub gap_at : Sense → Side → SensedQuestion → Instant → Gap
unfolding height_above
gap_at w side s t = gap_of (sensed w (height_above side s t.n t.m)) (scale side s t.m) (k s)
