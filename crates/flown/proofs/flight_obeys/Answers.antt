-- `flown::flight_obeys` meets its contract: each place's test is that of the second.
use Rattle.std.proofs.Common.{◌∙◌, rules}
use Rattle.std.proofs.lemmas.Iterator.Consumers.{YieldsList-from_first}
use Rattle.std.proofs.lemmas.Iterator.Search.{all_from_yields_List}
use borrow.Author.Tests.{tests}
use Rattle.flown.specs.inner.Places.{flown, seen}
use Rattle.flown.specs.inner.LeftPlaces.{to_the_end, left_places}
use Rattle.flown.proofs.PlacesLeft.{obeys, all_obey}
use Rattle.flown.proofs.flight_obeys.Goals as goal

pub returns : goal.returns
returns c =
    let s = c.args.flight.question.sensed in
    let l = flown c.args.flight.sense c.args.flight.numbers.now in
    all_from_yields_List (obeys s) c.all.new.self _ _ c.all.ensures.ran
    (YieldsList-from_first seen left_places (to_the_end s l 0) c.places.ensures)
    (λ x b q k. search (rules, tests))
    ∙ all_obey s l
