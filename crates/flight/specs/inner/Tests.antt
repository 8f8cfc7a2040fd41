-- Definitions that only inner contracts use; an instructor need not read them.
-- Both answers as tests that compute: whether a flight obeys, and the least whole second in which it is inside the puck. They are the statements of
-- Obeying.antt and Inside.antt (`proofs/ObeyingTests.antt`, `proofs/InsideTests.antt`).
use Rattle.std.specs.Prelude.{Bool, true, false, cond, ◌&&◌, ◌||◌, List, ℕ, zero, suc, ◌*◌, leb, ltb, ℤ, pos, neg_ℤ, ◌+ℤ◌, ◌*ℤ◌, nat_abs, None, Option, Some}
use Rattle.std.specs.Int.Signed.{le_z, lt_z}
use Rattle.path.specs.declared.SensedQuestion.{SensedQuestion}
use Rattle.path.specs.Letters.{c, p, k, u, q, a, d, e}
use Rattle.path.specs.Window.{distance_at}
use Rattle.flight.specs.declared.Stretch.{Stretch}
use Rattle.flight.specs.declared.Part.{Part}
use Rattle.flight.specs.declared.Part.TheVariants.{Nowhere, FromTo, From}
use Rattle.flight.specs.Flight.{duration, acceleration_at, stretch_height, speed_at, height_at}
use Rattle.flight.specs.Inside.{height_apart}
use Rattle.flight.specs.inner.Parts.{near_part, band_from, band_to}

-- ---- obeying
-- a second with acceleration g that begins with speed v and ends with v'; its first instant is before d or not
abbrev pub obeys_delayed : ℕ → ℤ → Bool
obeys_delayed e g = leb (nat_abs g) e

abbrev pub obeys_advice : ℕ → ℤ → ℤ → ℤ → ℤ → Bool
obeys_advice a q g v v' = le_z (pos a) g || (le_z q v && le_z q v')

unfoldable pub second_obeys : SensedQuestion → List Stretch → ℕ → Bool
unfolding acceleration_at speed_at
second_obeys s l n =
    cond (ltb n (d s))
    (obeys_delayed (e s) (acceleration_at l n 1))
    (obeys_advice (a s) (q s) (acceleration_at l n 1) (speed_at (u s) l n 1) (speed_at (u s) l (suc n) 1))

-- the first n seconds obey
unfoldable pub first_obey : SensedQuestion → List Stretch → ℕ → Bool
unfolding second_obeys
first_obey s l zero = true
first_obey s l (suc n) = first_obey s l n && second_obeys s l n

unfoldable pub obeys_test : SensedQuestion → List Stretch → Bool
unfolding first_obey
obeys_test s l = first_obey s l (duration l)

-- ---- inside the puck
module _ (A v g : ℤ) where
  abbrev pub reaches_at : ℕ → ℕ → Bool
  reaches_at x y = le_z (A *ℤ pos y *ℤ pos y) (stretch_height v g x y)

  abbrev pub tops : ℕ → ℕ → Bool
  tops x y = lt_z g (pos 0) && (le_z (pos 0) (v *ℤ pos y +ℤ g *ℤ pos x) && le_z (pos 0) (v *ℤ v +ℤ g *ℤ A))

  abbrev pub reaches : Part → Bool
  reaches Nowhere = false
  reaches (FromTo x z y) = reaches_at x y || (reaches_at z y || (tops x y && le_z (v *ℤ pos y +ℤ g *ℤ pos z) (pos 0)))
  reaches (From x y) = reaches_at x y || (lt_z A (pos 2 *ℤ v +ℤ g) || (tops x y && lt_z (v +ℤ g) (pos 0)))

abbrev pub crosses : ℤ → ℤ → ℤ → ℤ → Part → Bool
crosses A B v g part = reaches A v g part && reaches (neg_ℤ B) (neg_ℤ v) (neg_ℤ g) part

-- at the whole second n
abbrev pub inside_at : SensedQuestion → List Stretch → ℕ → Bool
inside_at s l n = leb (nat_abs (distance_at s n 1)) (p s * 1) && leb (nat_abs (height_apart s l n 1)) (2 * 1 * 1 * k s)

-- in the second from n to n + 1, of which the flight's last instant has only the first instant
unfoldable pub inside_second : SensedQuestion → List Stretch → ℕ → Bool
unfolding acceleration_at speed_at height_at
inside_second s l n =
    cond (ltb n (duration l))
    (crosses (band_from s l n) (band_to s l n) (speed_at (u s) l n 1) (acceleration_at l n 1) (near_part (c s) (p s) (distance_at s n 1)))
    (inside_at s l n)

-- the first of f seconds from n on
unfoldable pub inside_from : SensedQuestion → List Stretch → ℕ → ℕ → Option ℕ
unfolding inside_second
inside_from s l zero n = None
inside_from s l (suc f) n = let later = inside_from s l f (suc n) in cond (inside_second s l n) (Some n) later

unfoldable pub first_inside : SensedQuestion → List Stretch → Option ℕ
unfolding inside_from
first_inside s l = inside_from s l (suc (duration l)) 0
