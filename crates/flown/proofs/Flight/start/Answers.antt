-- `Flight::start` meets its contract: the flight starts at the height 0 with the speed u.
use Rattle.std.proofs.Common.{sym, subst}
use Rattle.std.specs.Prelude.{ℤ, pos}
use Rattle.integers.proofs.Machine.{bounded, read_stored, result}
use Rattle.path.specs.Letters.{u}
use Rattle.path.specs.inner.Sizes.{max_speed_difference}
use Rattle.flown.specs.inner.Places.{BeginsAt}
use Rattle.flown.proofs.NextPlace.{moving, begins}
use Rattle.flown.proofs.Flight.start.Goals as goal

pub begin-requires : goal.begin-requires
begin-requires c =
    let f = c.args.self in
    let s = f.question.sensed in
    let speed = result (read_stored (bounded (u s) max_speed_difference f.question.sizes.u_lo f.question.sizes.u_hi)) tt in
    subst (λ (v : ℤ). BeginsAt s f.sense f.numbers.now 0 (moving (pos 0) v (pos 0)) f.numbers.now) (sym speed) (begins s f.sense f.numbers.now f.within)
