-- Document 01's table of limits ("Units"), row by row, and document 02's sizes of a flight: the numbers, each of which stands here alone, and the test of a row. An encounter is r, h, c, v,
-- vi; the settings are p, k, e; a question is sides, sense, target, upper target, strength a, upper strength b, delay d, limit.
use Rattle.std.specs.Prelude.{Bool, ◌&&◌, ℕ, ℤ, pos, neg_ℤ}
use Rattle.std.specs.Int.Signed.{le_z}

-- x is from lo to hi
abbrev pub within : ℤ → ℤ → ℤ → Bool
within lo hi x = le_z lo x && le_z x hi

-- r, distance ahead (negative: already passed): from −12,000,000 to 12,000,000
abbrev pub max_distance : ℕ
max_distance = 12000000

abbrev pub distance_within : ℤ → Bool
distance_within = within (neg_ℤ (pos max_distance)) (pos max_distance)

-- h, intruder height above ownship: from −480,000 to 480,000
abbrev pub max_height : ℕ
max_height = 480000

abbrev pub height_within : ℤ → Bool
height_within = within (neg_ℤ (pos max_height)) (pos max_height)

-- closing speed c: from 0 to 150,000
abbrev pub max_closing_speed : ℕ
max_closing_speed = 150000

abbrev pub closing_speed_within : ℤ → Bool
closing_speed_within = within (pos 0) (pos max_closing_speed)

-- v own, vi intruder vertical speed: from −10,000 to 10,000
abbrev pub max_speed : ℕ
max_speed = 10000

abbrev pub speed_within : ℤ → Bool
speed_within = within (neg_ℤ (pos max_speed)) (pos max_speed)

-- puck radius p: from 0 to 60,000
abbrev pub max_radius : ℕ
max_radius = 60000

abbrev pub radius_within : ℤ → Bool
radius_within = within (pos 0) (pos max_radius)

-- puck half height k: from 1 to 12,000
abbrev pub min_half_height : ℕ
min_half_height = 1

abbrev pub max_half_height : ℕ
max_half_height = 12000

abbrev pub half_height_within : ℤ → Bool
half_height_within = within (pos min_half_height) (pos max_half_height)

-- strength a, upper strength b: from 1 to 2,000
abbrev pub min_strength : ℕ
min_strength = 1

abbrev pub max_strength : ℕ
max_strength = 2000

abbrev pub strength_within : ℤ → Bool
strength_within = within (pos min_strength) (pos max_strength)

-- delay acceleration e: from 0 to 2,000
abbrev pub max_delay_acceleration : ℕ
max_delay_acceleration = 2000

abbrev pub acceleration_within : ℤ → Bool
acceleration_within = within (pos 0) (pos max_delay_acceleration)

-- target, upper target: from −10,000 to 10,000, as a vertical speed
abbrev pub target_within : ℤ → Bool
target_within = speed_within

-- delay d, whole seconds: from 0 to 60
abbrev pub max_delay : ℕ
max_delay = 60

abbrev pub delay_within : ℤ → Bool
delay_within = within (pos 0) (pos max_delay)

-- time limit, whole seconds: from 0 to 600
abbrev pub max_limit : ℕ
max_limit = 600

abbrev pub limit_within : ℤ → Bool
limit_within = within (pos 0) (pos max_limit)

-- "or none": "Limit 65,535 means none."
abbrev pub no_limit : ℤ
no_limit = pos 65535

-- ---- Document 02, "Judging a candidate's flight": "1 to 64 stretches, each a whole upward acceleration from −2,000 to 2,000 and 1 to 600 whole seconds, at
-- most 600 in total"
abbrev pub min_stretches : ℕ
min_stretches = 1

abbrev pub max_stretches : ℕ
max_stretches = 64

abbrev pub max_flight_acceleration : ℕ
max_flight_acceleration = 2000

abbrev pub flight_acceleration_within : ℤ → Bool
flight_acceleration_within = within (neg_ℤ (pos max_flight_acceleration)) (pos max_flight_acceleration)

-- of a stretch, and in total
abbrev pub min_stretch_seconds : ℕ
min_stretch_seconds = 1

abbrev pub max_flight_seconds : ℕ
max_flight_seconds = 600

abbrev pub stretch_seconds_within : ℤ → Bool
stretch_seconds_within = within (pos min_stretch_seconds) (pos max_flight_seconds)
