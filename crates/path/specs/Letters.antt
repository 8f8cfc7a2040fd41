-- Document 01's letters for the fields of a sensed question s. A grain is 1/60 foot; heights and distances are in grains, speeds in grains a second,
-- accelerations in grains a second squared, times in seconds.
-- The frame of reference: "'Sensed height' is w times height, measured from a level that starts at the ownship and moves with the intruder's vertical speed",
-- w being +1 for climb, −1 for descend. Seen from that level the intruder keeps its height w × h, and the ownship starts at height 0 with the speed
-- u = w × (v − vi). So vi is in u and in q, and in no path.
use Rattle.std.specs.Prelude.{ℕ, ℤ}
use Rattle.path.specs.declared.SensedQuestion.{SensedQuestion}

module _ (s : SensedQuestion) where
  -- r, the distance ahead, and c, the closing speed
  abbrev pub r : ℤ
  r = s.distance

  abbrev pub c : ℕ
  c = s.closing_speed

  -- p, the puck's radius, and k, its half height
  abbrev pub p : ℕ
  p = s.radius

  abbrev pub k : ℕ
  k = s.half_height

  -- w × h, the intruder's sensed height
  abbrev pub wh : ℤ
  wh = s.level

  -- u = w × (v − vi), and q = w × (target − vi)
  abbrev pub u : ℤ
  u = s.speed

  abbrev pub q : ℤ
  q = s.target

  -- a, the strength, d, the delay, and e, the delay acceleration
  abbrev pub a : ℕ
  a = s.strength

  abbrev pub d : ℕ
  d = s.delay

  abbrev pub e : ℕ
  e = s.delay_acceleration

  -- w × (upper target − vi), and b, the upper strength
  abbrev pub upper_q : ℤ
  upper_q = s.upper_target

  abbrev pub b : ℕ
  b = s.upper_strength
