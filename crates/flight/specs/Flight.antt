-- A candidate's flight (document 02, "Judging a candidate's flight"): "Candidates answer with a flight from speed v: 1 to 64 stretches, each a whole upward
-- acceleration from −2,000 to 2,000 and 1 to 600 whole seconds, at most 600 in total." v is the speed at the start; the height there is 0. A time is n/m
-- seconds, and "each comparison at it is multiplied through by its divisors" (document 01): a speed at n/m stands times m, a height times 2 × m².
use Rattle.std.specs.Prelude.{cond, List, [], ◌∷◌, ℕ, ◌+◌, ◌*◌, ◌-◌, ltb, ℤ, pos, ◌+ℤ◌, ◌*ℤ◌}
use Rattle.flight.specs.declared.Stretch.{Stretch}

-- how long a flight lasts
abbrev pub duration : List Stretch → ℕ
duration [] = 0
duration (x ∷ l) = x.seconds + duration l

-- The acceleration at n/m: "A stretch owns its first instant and not its last". The flight's last instant has none; 0 stands there, and no rule looks at it.
unfoldable pub acceleration_at : List Stretch → ℕ → ℕ → ℤ
acceleration_at [] n m = pos 0
acceleration_at (x ∷ l) n m = cond (ltb n (x.seconds * m)) x.acceleration (acceleration_at l (n - x.seconds * m) m)

-- within a stretch that begins with speed v and accelerates by g: the speed v + g × t, and the height gained, v × t + g × t²/2
abbrev pub stretch_speed : ℤ → ℤ → ℕ → ℕ → ℤ
stretch_speed v g n m = v *ℤ pos m +ℤ g *ℤ pos n

abbrev pub stretch_height : ℤ → ℤ → ℕ → ℕ → ℤ
stretch_height v g n m = pos 2 *ℤ v *ℤ pos n *ℤ pos m +ℤ g *ℤ pos n *ℤ pos n

-- the speed with which the next stretch begins
abbrev pub speed_after : ℤ → Stretch → ℤ
speed_after v x = v +ℤ x.acceleration *ℤ pos x.seconds

-- The speed and the height at n/m. (Past its end a flight goes straight on; no statement looks there.)
unfoldable pub speed_at : ℤ → List Stretch → ℕ → ℕ → ℤ
speed_at v [] n m = v *ℤ pos m
speed_at v (x ∷ l) n m =
    cond (ltb n (x.seconds * m))
    (stretch_speed v x.acceleration n m)
    (speed_at (speed_after v x) l (n - x.seconds * m) m)

unfoldable pub height_at : ℤ → List Stretch → ℕ → ℕ → ℤ
height_at v [] n m = stretch_height v (pos 0) n m
height_at v (x ∷ l) n m =
    cond (ltb n (x.seconds * m))
    (stretch_height v x.acceleration n m)
    (stretch_height v x.acceleration (x.seconds * m) m +ℤ height_at (speed_after v x) l (n - x.seconds * m) m)
