-- `Flight::begin` meets its contract: the next stretch owns the second, or none does.
use Rattle.std.proofs.Common.{◌≡◌, refl, rules, ℕ, List, ℤ}
use mir.Syntax.{w64}
use mir.Val.{to_z, of_z, SFits}
use mir.Facts.{to_z-of_z}
use Rattle.flight.specs.declared.Stretch.{Stretch}
use Rattle.second.specs.declared.Motion.{Motion}
use Rattle.second.specs.inner.SecondSizes.{MotionSizes}
use Rattle.flown.specs.declared.Flight.{Flight}
use Rattle.flown.specs.inner.Places.{flown, motion_at, BeginsAt}
use Rattle.flown.proofs.NextPlace.{moving, Begun, next_begun, none_begun, begun_motion, begun_place}
use Rattle.flown.proofs.WithinLimits.{early, motion_sizes}
use Rattle.flown.proofs.Flight.begin.Goals as goal

abbrev stored : ℤ → ℤ
stored v = to_z w64 (of_z w64 v)

-- the motion at n, as the machine has it, where the stretch x begins
module _ (f : Flight) {n : ℕ} {motion : Motion} {before later : List ℤ} {x : Stretch} {g : ℤ} (h : BeginsAt f.question.sensed f.sense f.numbers.now n motion before)
    (b : Begun f.question.sensed f.sense f.numbers.now n later x) (force : g ≡ x.acceleration) (y : SFits w64 motion.height) (v : SFits w64 motion.speed) where
  there : moving (stored motion.height) (stored motion.speed) g ≡ motion_at f.question.sensed (flown f.sense f.numbers.now) n
  there = begun_motion f.question.sensed f.sense f.numbers.now h b (to_z-of_z y) (to_z-of_z v) force

  sized : MotionSizes (moving (stored motion.height) (stored motion.speed) g)
  sized = motion_sizes f.numbers.now f.within f.sense b.left f.question.sensed f.question.sizes there

pub invariant_of-result : goal.invariant_of-result
invariant_of-result c =
    let f = c.args.self in
    let begun = none_begun f.question.sensed f.sense f.numbers.now c.requires c.in_default.ensures.steps.0 c.in_default.ensures.steps.1 in
    record { early = early f.numbers.now f.within f.sense begun.left; sizes = sized f c.requires begun refl (search rules) (search rules) }

pub returns-in_default : goal.returns-in_default
returns-in_default c =
    let f = c.args.self in
    let begun = none_begun f.question.sensed f.sense f.numbers.now c.requires c.in_default.ensures.steps.0 c.in_default.ensures.steps.1 in
    (refl, begun_place f.question.sensed f.sense f.numbers.now begun refl (there f c.requires begun refl (search rules) (search rules)))

pub invariant_of-result-2 : goal.invariant_of-result-2
invariant_of-result-2 c =
    let f = c.args.self in
    let begun = next_begun f.question.sensed f.sense f.numbers.now c.requires c.in-Some.ensures.steps c.sensed_stretch-stretch.ensures in
    record { early = early f.numbers.now f.within f.sense begun.left; sizes = sized f c.requires begun (to_z-of_z {w = w64} (search rules)) (search rules) (search rules) }

pub returns : goal.returns
returns c =
    let f = c.args.self in
    let begun = next_begun f.question.sensed f.sense f.numbers.now c.requires c.in-Some.ensures.steps c.sensed_stretch-stretch.ensures in
    (refl, begun_place f.question.sensed f.sense f.numbers.now begun refl (there f c.requires begun (to_z-of_z {w = w64} (search rules)) (search rules) (search rules)))
