-- `flown::first_inside` meets its contract: each place's test is that of the second.
use Rattle.std.proofs.Common.{◌≡◌, refl, ap, ◌∙◌, Option, Some, None, rules}
use Rattle.std.specs.Option.{option_map}
use Rattle.std.proofs.lemmas.Iterator.Consumers.{YieldsList-from_first}
use Rattle.std.proofs.lemmas.Iterator.Search.{find_from_yields_List}
use borrow.Author.Tests.{tests}
use Rattle.flown.specs.declared.Place.{Place}
use Rattle.flown.specs.inner.Places.{flown, Seen, seen}
use Rattle.flown.specs.inner.LeftPlaces.{to_the_end, left_places}
use Rattle.flown.proofs.PlacesLeft.{inside, first_found}
use Rattle.flown.proofs.first_inside.Goals as goal

number_seen : (o : Option Place) → option_map (λ (p : Place). p.second.n) o ≡ option_map (λ (x : Seen). x.0) (option_map seen o)
number_seen None = refl
number_seen (Some p) = refl

pub returns : goal.returns
returns c =
    let s = c.args.flight.question.sensed in
    let l = flown c.args.flight.sense c.args.flight.numbers.now in
    let number : c.map.result ≡ option_map (λ (p : Place). p.second.n) c.find.result = search rules in
    number
    ∙ number_seen c.find.result
    ∙ ap (option_map (λ (x : Seen). x.0))
    (find_from_yields_List (inside s) c.find.new.self _ c.find.result c.find.ensures.ran
    (YieldsList-from_first seen left_places (to_the_end s l 0) c.places.ensures)
    (λ x b q k. search (rules, tests)))
    ∙ first_found s l
