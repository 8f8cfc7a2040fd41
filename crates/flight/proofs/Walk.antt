-- What a program's walk over a flight needs, second by second: the speed and the height at the next whole second, and both tests of a second in the numbers
-- that the walk has. Assumes nothing.
use mathlib.Core.Path.{◌≡◌, ap, ◌∙◌}
use mathlib.Core.Bool.{Bool, cond, ◌&&◌}
use mathlib.Core.List.{List, [], ◌∷◌}
use Prim.Native.Nat.{ℕ, suc, ◌+◌, ◌*◌, ◌<◌, ◌≤◌}
use native.Mathlib.Omega.{arith}
use lib.Dec.{ltb}
use lib.IntN.{ℤ, pos, neg_ℤ, ◌+ℤ◌, ◌*ℤ◌, nat_abs}
use Rattle.std.proofs.lemmas.Bool.{lt-ltb, le-ltb}
use Rattle.integers.proofs.Quotation.{quote}
use Rattle.integers.proofs.Certificates.{ring}
use Rattle.std.proofs.lemmas.Bool.{cond-true, cond-false}
use Rattle.path.specs.declared.SensedQuestion.{SensedQuestion}
use Rattle.path.specs.Letters.{c, p, u, q, a, d, e}
use Rattle.path.specs.Window.{distance_at}
use Rattle.flight.specs.declared.Stretch.{Stretch}
use Rattle.flight.specs.declared.Part.{Part}
use Rattle.flight.specs.Flight.{duration, acceleration_at, speed_at, height_at}
use Rattle.flight.specs.inner.Parts.{near_part, band_from, band_to}
use Rattle.flight.specs.inner.Tests.{obeys_delayed, obeys_advice, second_obeys, reaches, crosses, inside_at, inside_second}
use Rattle.flight.specs.inner.Clamped.{clamped}
use Rattle.flight.proofs.Steps.{speed_start, height_start, speed_step, height_step}
use Rattle.flight.proofs.PlainNumbers.{negated_size}
use Rattle.flight.proofs.NearParts.{near_part_lem}
use Rattle.flight.proofs.Clamped.{reaches_clamped}

-- ---- speed and height at whole seconds
module _ (v : ℤ) (l : List Stretch) where
  pub first_speed : speed_at v l 0 1 ≡ v
  first_speed = speed_start v l 1 ∙ ring [] (v ∷ []) (λ w. search quote depth 20) tt

  pub first_height : height_at v l 0 1 ≡ pos 0
  first_height = height_start v l 1

  pub next_speed : (n : ℕ) → n < duration l → speed_at v l (suc n) 1 ≡ speed_at v l n 1 +ℤ acceleration_at l n 1
  next_speed n h = speed_step v l n 1 (omega arith)

  pub next_height : (n : ℕ) → n < duration l → height_at v l (suc n) 1 ≡ height_at v l n 1 +ℤ pos 2 *ℤ speed_at v l n 1 +ℤ acceleration_at l n 1
  next_height n h = height_step v l n 1 (omega arith)

-- ---- obeying
module _ (s : SensedQuestion) (l : List Stretch) where
  -- one second's test in the numbers that a walk has: the next speed is v + g
  pub obeys_here : (n : ℕ) → n < duration l
      → second_obeys s l n ≡ cond (ltb n (d s)) (obeys_delayed (e s) (acceleration_at l n 1)) (obeys_advice (a s) (q s) (acceleration_at l n 1) (speed_at (u s) l n 1) (speed_at (u s) l n 1 +ℤ acceleration_at l n 1))
  unfolding second_obeys
  obeys_here n h = ap (λ (z : ℤ). cond (ltb n (d s)) (obeys_delayed (e s) (acceleration_at l n 1)) (obeys_advice (a s) (q s) (acceleration_at l n 1) (speed_at (u s) l n 1) z)) (next_speed (u s) l n h)

-- ---- inside
module _ (s : SensedQuestion) (l : List Stretch) (n : ℕ) where
  abbrev part : Part
  part = near_part (c s) (p s) (distance_at s n 1)

  -- L is above what the height can gain in a second
  pub second_test : (L : ℕ) → n < duration l → 2 * nat_abs (speed_at (u s) l n 1) + nat_abs (acceleration_at l n 1) < L
      → inside_second s l n ≡ (reaches (clamped L (band_from s l n)) (speed_at (u s) l n 1) (acceleration_at l n 1) part && reaches (clamped L (neg_ℤ (band_to s l n))) (neg_ℤ (speed_at (u s) l n 1)) (neg_ℤ (acceleration_at l n 1)) part)
  unfolding inside_second
  second_test L h large =
      let v = speed_at (u s) l n 1 in
      let g = acceleration_at l n 1 in
      let proper = (near_part_lem (c s) (p s) (distance_at s n 1)).proper in
      let up = reaches_clamped L (band_from s l n) v g large part proper in
      let down = reaches_clamped L (neg_ℤ (band_to s l n)) (neg_ℤ v) (neg_ℤ g) (omega (arith, negated_size v, negated_size g)) part proper in
      cond-true (ltb n (duration l)) (crosses (band_from s l n) (band_to s l n) v g part) (inside_at s l n) (lt-ltb n (duration l) h)
      ∙ ap (λ (b : Bool). b && reaches (neg_ℤ (band_to s l n)) (neg_ℤ v) (neg_ℤ g) part) up
      ∙ ap (λ (b : Bool). reaches (clamped L (band_from s l n)) v g part && b) down

  pub last_test : duration l ≤ n → inside_second s l n ≡ inside_at s l n
  unfolding inside_second
  last_test h = cond-false (ltb n (duration l)) (crosses (band_from s l n) (band_to s l n) (speed_at (u s) l n 1) (acceleration_at l n 1) part) (inside_at s l n) (le-ltb n (duration l) h)
