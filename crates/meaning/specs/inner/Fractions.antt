-- Definitions that only inner contracts use; an instructor need not read them.
-- Heights above a path as fractions with a common factor divided out: `path` has them times 2 × a × m², which does not fit 64 bits. Those in the delay and on an arc share the strength,
-- which leaves 2 × m²; those on a straight share m, which leaves 2 × a × m.
use Rattle.std.specs.Prelude.{cond, ◌≡◌, ℕ, ◌+◌, ◌*◌, ◌^◌, ◌≤◌, ltb, ℤ, pos, nat_abs, ◌+ℤ◌, ◌-ℤ◌, ◌*ℤ◌}
use Rattle.limits.specs.Limits.{max_height}
use Rattle.path.specs.declared.SensedQuestion.{SensedQuestion}
use Rattle.path.specs.declared.Side.{Side}
use Rattle.path.specs.Letters.{wh, u, d}
use Rattle.path.specs.Paths.{delay_height}
use Rattle.conflict.specs.inner.Divided.{bend, strength_of, target_of, speed_after_delay, rule_of, missing}
use Rattle.conflict.specs.inner.RuleSizes.{most_start}
use Rattle.meaning.specs.declared.gaps.Fraction.{Fraction}
use Rattle.meaning.specs.Gaps.{scale, height_above}

-- the fraction is the height above the side's path at n/m
abbrev pub IsAbove : Side → SensedQuestion → ℕ → ℕ → Fraction → Type 0
IsAbove side s n m f = f.n *ℤ pos (scale side s m) ≡ height_above side s n m *ℤ pos f.d

-- small enough for a gap in 64 bits
pub record SizedFraction (f : Fraction) : Type 0 where
  pub numerator : nat_abs f.n ≤ 2 ^ 62
  pub divisor_lo : 1 ≤ f.d
  pub divisor_hi : f.d ≤ 2 ^ 36

-- twice the intruder's height above the path's at the delay's end
abbrev pub level_left : Side → SensedQuestion → ℤ
level_left side s = pos 2 *ℤ wh s -ℤ delay_height (bend side s) (u s) (d s) 1

abbrev pub most_level : ℕ
most_level = 2 * max_height + most_start

-- above a path that begins at a speed, half of level below the intruder, and gains `gained` besides by n/m: times 2 × m²
unfoldable pub curve : ℤ → ℤ → ℤ → ℕ → ℕ → Fraction
curve level speed gained n m = record { n = level *ℤ pos (m * m) -ℤ (pos 2 *ℤ speed *ℤ pos (n * m) +ℤ gained); d = 2 * (m * m) }

-- above a side's straight n/m after the rule begins: times 2 × a × m
abbrev pub straight : Side → SensedQuestion → ℕ → ℕ → Fraction
straight side s n m =
    let a = strength_of side s in
    let G = missing (rule_of side s) in
    record {
      n = level_left side s *ℤ pos (a * m) -ℤ (pos 2 *ℤ target_of side s *ℤ pos (a * n) -ℤ pos G *ℤ pos G *ℤ pos m);
      d = 2 * (a * m);
    }

-- the advice rule n/m after it begins, before its speed is the target and from then on
abbrev pub rule_above : Side → SensedQuestion → ℕ → ℕ → Fraction
rule_above side s n m =
    let a = strength_of side s in
    cond (ltb (a * n) (missing (rule_of side s) * m))
    (curve (level_left side s) (speed_after_delay side s) (pos (a * n * n)) n m)
    (straight side s n m)
