-- `Flight::after` meets its contract: a second later the flight is within the stretch, or the next one begins.
use Rattle.std.proofs.Common.{refl, ◌<◌, ◌-◌, arith}
use Rattle.flown.proofs.NextPlace.{next_left, next_motion, next_begins, next_within}
use Rattle.flown.proofs.WithinLimits.{early, motion_sizes}
use Rattle.flown.proofs.Flight.after.Goals as goal

pub begin-requires : goal.begin-requires
begin-requires c =
    let f = c.args.self in
    next_begins f.question.sensed f.sense f.numbers.now c.requires.at c.requires.going c.motion_after-motion.ensures (omega (arith, c.requires.going, c.if-left-eq0.true))

pub invariant_of-result : goal.invariant_of-result
invariant_of-result c =
    let f = c.args.self in
    let still : 0 < c.args.place.left - 1 = omega arith in
    let left = next_left f.question.sensed f.sense f.numbers.now c.requires.at c.requires.going c.motion_after-motion.ensures in
    let motion = next_motion f.question.sensed f.sense f.numbers.now c.requires.at c.requires.going c.motion_after-motion.ensures still in
    record { early = early f.numbers.now f.within f.sense left; sizes = motion_sizes f.numbers.now f.within f.sense left f.question.sensed f.question.sizes motion }

pub returns : goal.returns
returns c =
    let f = c.args.self in
    let still : 0 < c.args.place.left - 1 = omega arith in
    (refl, next_within f.question.sensed f.sense f.numbers.now c.requires.at c.requires.going c.motion_after-motion.ensures still)
