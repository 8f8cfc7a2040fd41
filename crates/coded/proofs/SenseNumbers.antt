-- A sense as a number is one that a question may have, and is that sense again. Assumes nothing.
use mathlib.Core.Path.{◌≡◌, refl}
use mathlib.Core.Bool.{true, cond, ◌||◌}
use lib.IntN.{pos}
use Rattle.advisory.specs.declared.Sense.{Sense}
use Rattle.advisory.specs.declared.Sense.TheVariants.{Climb, Descend}
use Rattle.question.specs.Refusals.{is_number}
use Rattle.coded.specs.Coded.{sense_number}

pub sense_known : (w : Sense) → (is_number (pos 0) (sense_number w) || is_number (pos 1) (sense_number w)) ≡ true
sense_known Climb = refl
sense_known Descend = refl

pub sense_back : (w : Sense) → cond (is_number (pos 1) (sense_number w)) Climb Descend ≡ w
sense_back Climb = refl
sense_back Descend = refl
