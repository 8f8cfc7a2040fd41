-- The larger and the smaller of two integers, and the larger of 0 and an integer.
use Rattle.std.specs.Prelude.{cond, ℕ, ℤ, pos, negsuc}
use Rattle.std.specs.Int.Signed.{le_z}

-- max(0, z): the standard name is z's positive part
abbrev pub max0 : ℤ → ℕ
max0 (pos n) = n
max0 (negsuc n) = 0

-- max(x, y)
abbrev pub maxℤ : ℤ → ℤ → ℤ
maxℤ x y = cond (le_z x y) y x

-- min(x, y)
abbrev pub minℤ : ℤ → ℤ → ℤ
minℤ x y = cond (le_z x y) x y
