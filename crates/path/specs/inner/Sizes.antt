-- Definitions that only inner contracts use; an instructor need not read them.
-- The sizes that a sensed question has where document 01's limits hold (`limits`): the inner functions ask for them, and whoever calls these shows them
-- from the refusals.
use Rattle.std.specs.Prelude.{◌≡◌, ◌⊎◌, ℕ, ◌+◌, ◌*◌, ◌≤◌, pos, neg_ℤ, ◌-ℤ◌, ◌≤ℤ◌, None, Option, Some}
use Rattle.std.specs.Coded.{Unit-prop, le_prop}
use Rattle.limits.specs.Limits.{max_distance, max_height, max_closing_speed, max_speed, max_radius, max_half_height, min_strength, max_strength, max_delay_acceleration, max_delay, max_limit}
use Rattle.path.specs.declared.SensedQuestion.{SensedQuestion}
use Rattle.path.specs.declared.Side.{Side}
use Rattle.path.specs.declared.Side.TheVariants.{Lower, Upper}
use Rattle.path.specs.Letters.{r, c, p, k, wh, u, q, a, d, e, upper_q, b}

abbrev pub LimitSize : Option ℕ → Type 0
LimitSize None = Unit {0}
LimitSize (Some L) = L ≤ max_limit

-- it has one proof at most, as a fact that a type keeps must
pub LimitSize-prop : (l : Option ℕ) → IsProp (LimitSize l)
LimitSize-prop None = Unit-prop
LimitSize-prop (Some L) = le_prop

-- u and q are differences of two speeds, and so is the change from u to q
abbrev pub max_speed_difference : ℕ
max_speed_difference = max_speed + max_speed

-- u_d = u − e × d, and the speed reached, u + e × d
abbrev pub max_speed_after_delay : ℕ
max_speed_after_delay = max_speed_difference + max_delay_acceleration * max_delay

pub record Sizes (s : SensedQuestion) : Type 0 where
  pub r_lo : neg_ℤ (pos max_distance) ≤ℤ r s
  pub r_hi : r s ≤ℤ pos max_distance
  pub c_hi : c s ≤ max_closing_speed
  pub p_hi : p s ≤ max_radius
  pub k_hi : k s ≤ max_half_height
  pub wh_lo : neg_ℤ (pos max_height) ≤ℤ wh s
  pub wh_hi : wh s ≤ℤ pos max_height
  pub u_lo : neg_ℤ (pos max_speed_difference) ≤ℤ u s
  pub u_hi : u s ≤ℤ pos max_speed_difference
  pub q_lo : neg_ℤ (pos max_speed_difference) ≤ℤ q s
  pub q_hi : q s ≤ℤ pos max_speed_difference
  pub a_lo : min_strength ≤ a s
  pub a_hi : a s ≤ max_strength
  pub d_hi : d s ≤ max_delay
  pub e_hi : e s ≤ max_delay_acceleration
  pub limit_hi : LimitSize s.limit

-- of a two-sided question
pub record UpperSizes (s : SensedQuestion) : Type 0 where
  pub b_lo : min_strength ≤ b s
  pub b_hi : b s ≤ max_strength
  pub upper_q_lo : neg_ℤ (pos max_speed_difference) ≤ℤ upper_q s
  pub upper_q_hi : upper_q s ≤ℤ pos max_speed_difference
  pub change : (upper_q s -ℤ u s) ≤ℤ pos max_speed_difference

-- what a side needs
abbrev pub Sized : Side → SensedQuestion → Type 0
Sized Lower s = Sizes s
Sized Upper s = Sizes s × UpperSizes s

-- The seconds that a search needs at most after d: chosen, and enough for the limits (`reaches_end`)
abbrev pub search_seconds : Side → ℕ
search_seconds Lower = 1680000
search_seconds Upper = 201680000

-- The instants that the judge looks at: window ends, d, the turning instant, and the whole seconds of a search
abbrev pub farthest : Side → ℕ
farthest Lower = max_distance + max_radius
farthest Upper = max_delay + search_seconds Upper

pub record InReach (side : Side) (n m : ℕ) : Type 0 where
  pub n_hi : n ≤ farthest side
  pub m_lo : 1 ≤ m
  pub m_hi : m ≤ max_closing_speed

-- Where a side's path is compared: in its reach, and at each whole second in the upper one's
abbrev pub Compared : Side → ℕ → ℕ → Type 0
Compared side n m = InReach side n m ⊎ (InReach Upper n m × (m ≡ 1))

-- The whole seconds between which a search looks, where the window has no end and the path goes towards the intruder for ever: at the later one it has
-- reached the intruder, whatever the accepted question
abbrev pub search_start : Side → SensedQuestion → ℕ
search_start Lower s = d s
search_start Upper s = 0

abbrev pub search_end : Side → SensedQuestion → ℕ
search_end side s = d s + search_seconds side
