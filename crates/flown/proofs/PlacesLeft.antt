-- The places of a flight one after the other, and what the tests of each say of the whole. Assumes nothing.
use Rattle.std.specs.Prelude.{Option, Some}
use Rattle.std.specs.List.{list_all, find}
use Rattle.std.specs.Option.{option_map}
use mathlib.Core.Path.{◌≡◌, refl, sym, ap, ap₂, ◌∙◌}
use mathlib.Core.Bool.{Bool, true, false, cond, ◌&&◌, ◌||◌, and_assoc, and-true}
use mathlib.Core.List.{List, [], ◌∷◌}
use mathlib.Core.Logic.{⊎_elim}
use Prim.Native.Nat.{ℕ, zero, suc, ◌+◌, ◌-◌, ◌<◌, ◌≤◌}
use native.Mathlib.Omega.{arith}
use borrow.Author.Tests.{eq-eqb, ne_eqb, lt-ltb}
use lib.Dec.{eqb, ltb}
use lib.IntN.{ℤ}
use Rattle.std.proofs.lemmas.Bool.{cond-true}
use Rattle.integers.proofs.Laws.{split≤}
use Rattle.advisory.specs.declared.Sense.{Sense}
use Rattle.path.specs.declared.SensedQuestion.{SensedQuestion}
use Rattle.flight.specs.declared.Stretch.{Stretch}
use Rattle.flight.specs.Flight.{duration}
use Rattle.flight.specs.SensedFlight.{sensed_flight}
use Rattle.flight.specs.inner.Tests.{second_obeys, first_obey, obeys_test, inside_second, inside_from, first_inside}
use Rattle.flight.proofs.Walk.{obeys_here, last_test}
use Rattle.second.specs.declared.Motion.{Motion}
use Rattle.second.specs.inner.SecondTests.{obeys_in, crosses_in, inside_at_start}
use Rattle.flown.specs.declared.Place.{Place}
use Rattle.flown.specs.inner.Places.{flown, motion_at, PlaceAt, Seen, seen, seen_at, places_from}
use Rattle.flown.specs.inner.LeftPlaces.{to_the_end}

-- ---- a place and those after it
module _ (s : SensedQuestion) (w : Sense) (l : List ℤ) {place : Place} (at : PlaceAt s w l place) where
  abbrev f : List Stretch
  f = flown w l

  ended : place.left ≡ 0 → place.second.n ≡ duration f
  ended e = omega (arith, at.left.time, ap (λ (r : List Stretch). duration (sensed_flight w r)) (at.going e))

  is_seen : seen place ≡ seen_at s f place.second.n
  is_seen = ap₂ (λ (m : Motion) (b : Bool). (place.second.n, (m, b))) at.motion (⊎_elim
      (λ (e : place.left ≤ 0).
      let none : place.left ≡ 0 = omega arith in
      eq-eqb place.left 0 none ∙ sym (eq-eqb place.second.n (duration f) (ended none)))
      (λ (h : 0 < place.left).
      ne_eqb place.left 0 (λ (e : place.left ≡ 0). omega arith) ∙ sym (ne_eqb place.second.n (duration f) (λ (e : place.second.n ≡ duration f). omega (arith, at.left.time))))
      (split≤ place.left 0))

  pub last_place : place.left ≡ 0 → to_the_end s f place.second.n ≡ seen place ∷ []
  last_place e =
      ap (λ (i : ℕ). places_from s f i place.second.n) {x = suc (duration f) - place.second.n} {y = suc zero} (omega (arith, ended e))
      ∙ ap (λ (x : Seen). x ∷ []) (sym is_seen)

  pub place_and_later : 0 < place.left → to_the_end s f place.second.n ≡ seen place ∷ to_the_end s f (place.second.n + 1)
  place_and_later h =
      ap (λ (i : ℕ). places_from s f i place.second.n) {x = suc (duration f) - place.second.n} {y = suc (suc (duration f) - (place.second.n + 1))} (omega (arith, at.left.time))
      ∙ ap (λ (i : ℕ). seen_at s f place.second.n ∷ places_from s f (suc (duration f) - (place.second.n + 1)) i) {x = suc place.second.n} {y = place.second.n + 1} (omega arith)
      ∙ ap (λ (x : Seen). x ∷ to_the_end s f (place.second.n + 1)) (sym is_seen)

-- ---- the tests of a place
module _ (s : SensedQuestion) where
  abbrev pub obeys : Seen → Bool
  obeys x = x.1.1 || obeys_in s x.0 x.1.0

  abbrev pub inside : Seen → Bool
  inside x = cond x.1.1 (inside_at_start s x.0 x.1.0) (crosses_in s x.0 x.1.0)

abbrev number : Seen → ℕ
number x = x.0

found : (b : Bool) (x : Seen) (o : Option Seen) (p : Option ℕ) → option_map number o ≡ p → option_map number (cond b (Some x) o) ≡ cond b (Some x.0) p
found true x o p e = refl
found false x o p e = e

module _ (s : SensedQuestion) (l : List Stretch) where
  going : (n : ℕ) → n < duration l → eqb n (duration l) ≡ false
  going n h = ne_eqb n (duration l) (λ (e : n ≡ duration l). omega arith)

  -- ---- obeying
  obeys_whole : (n : ℕ) → n < duration l → obeys s (seen_at s l n) ≡ second_obeys s l n
  obeys_whole n h = ap (λ (b : Bool). b || obeys_in s n (motion_at s l n)) (going n h) ∙ sym (obeys_here s l n h)

  from_there : (f n : ℕ) → n + f ≡ duration l → (first_obey s l n && list_all (obeys s) (places_from s l (suc f) n)) ≡ obeys_test s l
  unfolding first_obey obeys_test
  from_there zero n e =
      let end : n ≡ duration l = omega arith in
      ap (λ (b : Bool). first_obey s l n && ((b || obeys_in s n (motion_at s l n)) && true)) (eq-eqb n (duration l) end)
      ∙ and-true (first_obey s l n)
      ∙ ap (first_obey s l) end
  from_there (suc f) n e =
      ap (λ (b : Bool). first_obey s l n && (b && list_all (obeys s) (places_from s l (suc f) (suc n)))) (obeys_whole n (omega arith))
      ∙ sym (and_assoc (first_obey s l n) (second_obeys s l n) (list_all (obeys s) (places_from s l (suc f) (suc n))))
      ∙ from_there f (suc n) (omega arith)

  pub all_obey : list_all (obeys s) (to_the_end s l 0) ≡ obeys_test s l
  unfolding first_obey
  all_obey = ap (λ (f : ℕ). list_all (obeys s) (places_from s l f 0)) {x = suc (duration l) - 0} {y = suc (duration l)} (omega arith) ∙ from_there (duration l) 0 (omega arith)

  -- ---- inside
  is_inside : (n : ℕ) → n ≤ duration l → inside s (seen_at s l n) ≡ inside_second s l n
  unfolding inside_second
  is_inside n h = ⊎_elim
      (λ (e : duration l ≤ n).
      ap (λ (b : Bool). cond b (inside_at_start s n (motion_at s l n)) (crosses_in s n (motion_at s l n))) (eq-eqb n (duration l) (omega arith)) ∙ sym (last_test s l n e))
      (λ (i : n < duration l).
      ap (λ (b : Bool). cond b (inside_at_start s n (motion_at s l n)) (crosses_in s n (motion_at s l n))) (going n i)
      ∙ sym (cond-true (ltb n (duration l)) (crosses_in s n (motion_at s l n)) (inside_at_start s n (motion_at s l n)) (lt-ltb n (duration l) i)))
      (split≤ (duration l) n)

  found_from : (f n : ℕ) → n + f ≡ suc (duration l) → option_map number (find (inside s) (places_from s l f n)) ≡ inside_from s l f n
  unfolding inside_from
  found_from zero n e = refl
  found_from (suc f) n e =
      found (inside s (seen_at s l n)) (seen_at s l n) (find (inside s) (places_from s l f (suc n))) (inside_from s l f (suc n)) (found_from f (suc n) (omega arith))
      ∙ ap (λ (b : Bool). cond b (Some n) (inside_from s l f (suc n))) (is_inside n (omega arith))

  pub first_found : option_map (λ (x : Seen). x.0) (find (inside s) (to_the_end s l 0)) ≡ first_inside s l
  unfolding first_inside
  first_found =
      ap (λ (f : ℕ). option_map number (find (inside s) (places_from s l f 0))) {x = suc (duration l) - 0} {y = suc (duration l)} (omega arith)
      ∙ found_from (suc (duration l)) 0 (omega arith)
