-- Definitions that only inner contracts use; an instructor need not read them.
-- The sizes of an advice rule, which follow from those of its question (`path`, Sizes): what keeps its comparisons within 64 bits.
use Rattle.std.specs.Prelude.{ℕ, ◌+◌, ◌*◌, ◌≤◌, nat_abs}
use Rattle.limits.specs.Limits.{max_height, max_half_height, min_strength, max_strength, max_delay_acceleration, max_delay}
use Rattle.path.specs.declared.Side.{Side}
use Rattle.path.specs.declared.Side.TheVariants.{Lower, Upper}
use Rattle.path.specs.inner.Sizes.{max_speed_difference, max_speed_after_delay}
use Rattle.conflict.specs.declared.AdviceRule.{AdviceRule}

-- twice the height at the delay's end, 2 × u × d − e × d² or 2 × u × d + e × d², at most
abbrev pub most_start : ℕ
most_start = 2 * max_speed_difference * max_delay + max_delay_acceleration * max_delay * max_delay

-- twice the height of the puck's edge above the height where the rule begins, at most
abbrev pub most_edge : ℕ
most_edge = 2 * (max_height + max_half_height) + most_start

pub record RuleSizes (rule : AdviceRule) : Type 0 where
  pub strength_lo : min_strength ≤ rule.strength
  pub strength_hi : rule.strength ≤ max_strength
  pub target_hi : nat_abs rule.target ≤ max_speed_after_delay
  pub speed_hi : nat_abs rule.speed ≤ max_speed_after_delay
  pub edge_hi : nat_abs rule.edge ≤ most_edge

-- G at most: of any rule of these sizes; the upper rule, which is looked at later, misses less speed
abbrev pub most_missing : Side → ℕ
most_missing Lower = max_speed_after_delay + max_speed_after_delay
most_missing Upper = max_speed_difference

-- a × n² at most, while n/m is before G/a: then a × n is below G × m
abbrev pub most_bend : ℕ
most_bend = 700000000000000000
