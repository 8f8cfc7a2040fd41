-- The time that shows n/m: "A time is whole seconds, remainder and divisor; the remainder is below the divisor, the remainder and divisor share no factor
-- above 1, and a whole time has remainder 0 and divisor 1" (document 01, "Paths and conflict").
use Rattle.std.specs.Prelude.{ℕ, ◌+◌, ◌*◌, ◌^◌, ◌≤◌, ◌<◌}
use Rattle.std.specs.Int.{◌∣◌}
use Rattle.instant.specs.declared.Instant.{Instant}
use Rattle.instant.specs.declared.Time.{Time}
use Rattle.instant.specs.Order.{◌÷◌, ◌≈◌}

-- the rational time that a time shows
abbrev pub shows : Time → Instant
shows t = t.seconds * t.divisor + t.remainder ÷ t.divisor

-- t is n/m in lowest terms
pub record LowestTerms (n m : ℕ) (t : Time) : Type 0 where
  -- (seconds * divisor + remainder) * m ≡ n * divisor
  pub value : shows t ≈ n ÷ m
  -- "the remainder is below the divisor"
  pub below : t.remainder < t.divisor
  -- "the remainder and divisor share no factor above 1"
  pub apart : (k : ℕ) → k ∣ t.remainder → k ∣ t.divisor → k ≤ 1

-- "a whole time has remainder 0 and divisor 1"
abbrev pub whole_time : ℕ → Time
whole_time s = record { seconds = s; remainder = 0; divisor = 1 }

-- small enough for an answer record's "4 unsigned bytes each" (document 01, "The sheet")
pub record SizedTime (t : Time) : Type 0 where
  pub seconds : t.seconds < 2 ^ 32
  pub remainder : t.remainder < 2 ^ 32
  pub divisor : t.divisor < 2 ^ 32
