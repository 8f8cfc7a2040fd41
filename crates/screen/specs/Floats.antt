-- Whole numbers as 64-bit floats.
use Rattle.std.specs.Prelude.{◌≡◌, Bool, true, false, ℕ, ℤ, pos, neg_ℤ, Float}
use Rattle.std.specs.Float.{binary64}
use Rattle.std.specs.Float.Ieee.{of_int}
use Rattle.std.specs.Float.Ieee.Exact.{HasValue}

-- the float of a whole number; of 0 it is +0
abbrev pub float : ℤ → Float
float = of_int binary64

-- a sign and a size as a whole number; true is minus
abbrev pub signed : Bool → ℕ → ℤ
signed true n = neg_ℤ (pos n)
signed false n = pos n

-- x is finite, and its value is exactly z; 0 may have either sign
pub record Exactly (x : Float) (z : ℤ) : Type 0 where
  pub sign : Bool
  pub size : ℕ
  pub value : HasValue x sign size 1
  pub whole : signed sign size ≡ z
