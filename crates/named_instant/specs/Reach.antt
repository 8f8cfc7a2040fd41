-- The instants that are judged. A rational time is judged by its value: in lowest terms.
use Rattle.std.specs.Prelude.{Bool, ◌&&◌, ◌||◌, ℕ, eqb, leb, ltb}
use Rattle.instant.specs.declared.Instant.{Instant}
use Rattle.instant.specs.LowestTerms.{shows}
use Rattle.instant.specs.Lowest.{lowest}

-- n/m in lowest terms; where m is 0, which is no time, 0/0
abbrev pub value : Instant → Instant
value t = shows (lowest t.n t.m)

-- Every time that the judge shows is in reach, and every decimal of three places up to 12,000 s: fractions with a divisor up to 150,000 and a numerator up to
-- 12,060,000, and the whole seconds up to 201,680,060, all in lowest terms.
abbrev pub max_divisor : ℕ
max_divisor = 150000

abbrev pub max_numerator : ℕ
max_numerator = 12060000

abbrev pub max_second : ℕ
max_second = 201680060

abbrev pub in_reach : Instant → Bool
in_reach t = ltb 0 t.m && leb t.m max_divisor && (leb t.n max_numerator || eqb t.m 1 && leb t.n max_second)
