-- Definitions that only inner contracts use; an instructor need not read them.
-- The comparisons of `path` with a common factor of their two sides divided out. `path` compares times 2 × a × m² (upper: 2 × b × m²), which does
-- not fit 64 bits. The two sides for an arc share the strength, which leaves 2 × m²; those for a straight share m, which leaves 2 × a × m.
use Rattle.std.specs.Prelude.{Bool, ℕ, ◌*◌, ℤ, pos, neg_ℤ, ◌+ℤ◌, ◌-ℤ◌, ◌*ℤ◌}
use Rattle.std.specs.Int.Signed.{le_z}
use Rattle.integers.specs.Extremes.{max0}
use Rattle.path.specs.declared.SensedQuestion.{SensedQuestion}
use Rattle.path.specs.declared.Side.{Side}
use Rattle.path.specs.declared.Side.TheVariants.{Lower, Upper}
use Rattle.path.specs.Letters.{k, wh, u, q, a, d, e, b}
use Rattle.path.specs.Paths.{advice_gain, delay_height, u_d, speed_reached, upper_target}
use Rattle.conflict.specs.declared.AdviceRule.{AdviceRule}

-- A height is "not strictly beyond" the puck's edge: lower, at it or below; upper, at it or above.
abbrev pub height_not_beyond : Side → ℤ → ℤ → Bool
height_not_beyond Lower height edge = le_z height edge
height_not_beyond Upper height edge = le_z edge height

-- The acceleration during the delay, and the speed at its end: lower, u_d; upper, the speed reached
abbrev pub bend : Side → SensedQuestion → ℤ
bend Lower s = neg_ℤ (pos (e s))
bend Upper s = pos (e s)

abbrev pub speed_after_delay : Side → SensedQuestion → ℤ
speed_after_delay Lower s = u_d s
speed_after_delay Upper s = speed_reached s

-- The height of the puck's edge: w × h + k or w × h − k
abbrev pub edge_height : Side → SensedQuestion → ℤ
edge_height Lower s = wh s +ℤ pos (k s)
edge_height Upper s = wh s -ℤ pos (k s)

-- The delay, u × t − e × t²/2 or u × t + e × t²/2, against the edge, times 2 × m²
abbrev pub delay_not_beyond : Side → SensedQuestion → ℕ → ℕ → Bool
delay_not_beyond side s n m = height_not_beyond side (delay_height (bend side s) (u s) n m) (pos 2 *ℤ pos m *ℤ pos m *ℤ edge_height side s)

-- The advice rule of a side, from d on, at the height and the speed there. Its edge is twice the height of the puck's edge above the height where the rule begins.
abbrev pub strength_of : Side → SensedQuestion → ℕ
strength_of Lower s = a s
strength_of Upper s = b s

abbrev pub target_of : Side → SensedQuestion → ℤ
target_of Lower s = q s
target_of Upper s = upper_target s

abbrev pub rule_edge : Side → SensedQuestion → ℤ
rule_edge side s = pos 2 *ℤ edge_height side s -ℤ delay_height (bend side s) (u s) (d s) 1

abbrev pub rule_of : Side → SensedQuestion → AdviceRule
rule_of side s = record { side = side; strength = strength_of side s; target = target_of side s; speed = speed_after_delay side s; edge = rule_edge side s }

-- The rule against its edge n/m after it begins, undivided: times 2 × a × m²
abbrev pub rule_not_beyond : AdviceRule → ℕ → ℕ → Bool
rule_not_beyond rule n m =
    height_not_beyond rule.side (advice_gain rule.strength rule.target rule.speed n m) (pos rule.strength *ℤ pos m *ℤ pos m *ℤ rule.edge)

-- "G = max(0, q − u_d)", the speed that is missing where the rule begins
abbrev pub missing : AdviceRule → ℕ
missing rule = max0 (rule.target -ℤ rule.speed)

-- while s < G/a: u_d × s + a × s²/2 at s = n/m, times 2 × m²
abbrev pub arc_not_beyond : AdviceRule → ℕ → ℕ → Bool
arc_not_beyond rule n m =
    height_not_beyond rule.side (pos 2 *ℤ rule.speed *ℤ pos n *ℤ pos m +ℤ pos rule.strength *ℤ pos n *ℤ pos n) (pos m *ℤ pos m *ℤ rule.edge)

-- from then on: q × s − G²/(2 × a), times 2 × a × m
abbrev pub straight_not_beyond : AdviceRule → ℕ → ℕ → Bool
straight_not_beyond rule n m =
    height_not_beyond rule.side
    (pos 2 *ℤ rule.target *ℤ pos (rule.strength * n) -ℤ pos (missing rule) *ℤ pos (missing rule) *ℤ pos m)
    (pos rule.strength *ℤ pos m *ℤ rule.edge)
