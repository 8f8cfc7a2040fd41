-- "Larger of zero and a difference" (document 02): what it asks of the line of arithmetic.
use Rattle.std.specs.Prelude.{◌≡◌, ◌⊎◌, ℤ, pos, neg_ℤ, ◌≤ℤ◌}

-- "any two numbers from −200,000 to 200,000": one of them
abbrev pub InRange : ℤ → Type 0
InRange x = (neg_ℤ (pos 200000) ≤ℤ x) × (x ≤ℤ pos 200000)

-- "it gives exactly the larger of 0 and their difference": no less than either, and one of the two
pub record LargerOfZero (difference larger : ℤ) : Type 0 where
  pub at_least_zero : pos 0 ≤ℤ larger
  pub at_least_difference : difference ≤ℤ larger
  pub one_of_them : (larger ≡ pos 0) ⊎ (larger ≡ difference)
