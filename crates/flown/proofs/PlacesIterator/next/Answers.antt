-- `Places::next` gives the place that comes first, and leaves those after it.
use Rattle.std.proofs.Common.{◌≡◌, sym, ap, ◌∙◌, ◌∷◌, length, ℕ, ◌<◌, Option, Some, arith, rules}
use Rattle.flown.specs.declared.Place.{Place}
use Rattle.flown.specs.declared.Places.{Places}
use Rattle.flown.specs.inner.Places.{flown, seen}
use Rattle.flown.specs.inner.LeftPlaces.{to_the_end, from_place, left_places}
use Rattle.flown.proofs.PlacesLeft.{last_place, place_and_later}
use Rattle.flown.proofs.PlacesIterator.next.Goals as goal
use Rattle.flown.proofs.PlacesIterator.next.Goals.{then-place-ne0, else-place-ne0}

pub returns-clause-steps : goal.returns-clause-steps
returns-clause-steps c =
    let self = c.args.self.now in
    let f = self.flight in
    let s = f.question.sensed in
    let l = f.numbers.now in
    let place = c.in_ok-place.place in
    let came : self.place ≡ Some place = sym c.take.ensures.value ∙ c.in_ok-place.was in
    let at = self.at place came in
    elim c.if-place-ne0.branch [
      | then-place-ne0 b ↦ let more : 0 < place.left = omega arith in
          ap (from_place f) came
          ∙ place_and_later s f.sense l at more
          ∙ ap (λ (i : ℕ). seen place ∷ to_the_end s (flown f.sense l) i) (sym b.after.ensures.0)
          ∙ ap (λ (p : Places). seen place ∷ left_places p) (sym b.self-is)
      | else-place-ne0 b ↦ ap (from_place f) came
          ∙ last_place s f.sense l at b.if-place-ne0.false
          ∙ ap (λ (o : Option Place). seen place ∷ from_place f o) (sym c.take.ensures.after)
          ∙ ap (λ (p : Places). seen place ∷ left_places p) (sym b.self-is)
    ]

pub returns-clause-goes : goal.returns-clause-goes
returns-clause-goes c = let shorter = ap length (returns-clause-steps c) in search rules
