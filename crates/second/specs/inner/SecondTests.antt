-- Definitions that only inner contracts use; an instructor need not read them.
-- The tests of `flight` for the second from n to n + 1, over the motion at n: what `second_obeys`, `inside_second` and `inside_at` look at of a flight.
use Rattle.std.specs.Prelude.{Bool, cond, ◌&&◌, ℕ, ◌*◌, leb, ltb, ℤ, pos, neg_ℤ, ◌+ℤ◌, ◌-ℤ◌, ◌*ℤ◌, nat_abs}
use Rattle.path.specs.declared.SensedQuestion.{SensedQuestion}
use Rattle.path.specs.Letters.{c, p, k, wh, q, a, d, e}
use Rattle.path.specs.Window.{distance_at}
use Rattle.flight.specs.inner.Parts.{near_part}
use Rattle.flight.specs.inner.Tests.{obeys_delayed, obeys_advice, crosses}
use Rattle.second.specs.declared.Motion.{Motion}

-- twice the height of the puck's band, from k below the intruder to k above, measured from the height at n
module _ (s : SensedQuestion) (motion : Motion) where
  abbrev pub edge_below : ℤ
  edge_below = pos 2 *ℤ (wh s -ℤ pos (k s)) -ℤ motion.height

  abbrev pub edge_above : ℤ
  edge_above = pos 2 *ℤ (wh s +ℤ pos (k s)) -ℤ motion.height

-- the flight with up for down
abbrev pub turned_over : Motion → Motion
turned_over motion = record { height = neg_ℤ motion.height; speed = neg_ℤ motion.speed; acceleration = neg_ℤ motion.acceleration }

-- ---- the tests
module _ (s : SensedQuestion) (n : ℕ) (motion : Motion) where
  abbrev pub obeys_in : Bool
  obeys_in =
      cond (ltb n (d s))
      (obeys_delayed (e s) motion.acceleration)
      (obeys_advice (a s) (q s) motion.acceleration motion.speed (motion.speed +ℤ motion.acceleration))

  abbrev pub crosses_in : Bool
  crosses_in = crosses (edge_below s motion) (edge_above s motion) motion.speed motion.acceleration (near_part (c s) (p s) (distance_at s n 1))

  abbrev pub inside_at_start : Bool
  inside_at_start = leb (nat_abs (distance_at s n 1)) (p s * 1) && leb (nat_abs (pos 2 *ℤ pos 1 *ℤ pos 1 *ℤ wh s -ℤ motion.height)) (2 * 1 * 1 * k s)
