-- The sizes of a piece, which follow from those of its question (`path`, Sizes): what keeps each float exact. Each bound is the sum of what the three pieces
-- need, term by term; the upper path's pieces need no more than the lower's.
use Rattle.std.specs.Prelude.{ℕ, ◌+◌, ◌*◌, ◌≤◌, nat_abs}
use Rattle.limits.specs.Limits.{max_strength, max_delay_acceleration, max_delay}
use Rattle.path.specs.declared.Side.TheVariants.{Lower}
use Rattle.path.specs.inner.Sizes.{max_speed_after_delay}
use Rattle.conflict.specs.inner.RuleSizes.{most_start, most_missing}
use Rattle.pieces.specs.declared.WholePiece.{WholePiece}

-- 2 × a × f_d, and G
abbrev pub most_height_after_delay : ℕ
most_height_after_delay = max_strength * most_start

abbrev pub most_gap : ℕ
most_gap = most_missing Lower

-- a × e, a²
abbrev pub most_square : ℕ
most_square = max_strength * max_delay_acceleration + max_strength * max_strength

-- 2 × a × u, 2 × a × q, 2 × a × u_d; 2 × a² × d
abbrev pub most_linear : ℕ
most_linear = 2 * max_strength * max_speed_after_delay + 2 * max_strength * max_strength * max_delay

-- 2 × a × f_d; 2 × a × q × d, 2 × a × u_d × d; a² × d²; G²
abbrev pub most_constant : ℕ
most_constant = most_height_after_delay + 2 * max_strength * max_speed_after_delay * max_delay + max_strength * max_strength * max_delay * max_delay + most_gap * most_gap

pub record PieceSizes (p : WholePiece) : Type 0 where
  pub square_hi : nat_abs p.square ≤ most_square
  pub linear_hi : nat_abs p.linear ≤ most_linear
  pub constant_hi : nat_abs p.constant ≤ most_constant
