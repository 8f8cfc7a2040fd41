-- `flown::motion_after` meets its contract: the sums fit, and are the definition's.
use Rattle.std.specs.Prelude.{ℤ, pos, ◌+ℤ◌, ◌*ℤ◌}
use mir.Syntax.{w64}
use mir.Val.{to_z, of_z}
use Rattle.integers.proofs.Machine.{result}
use Rattle.second.proofs.Fields.{second_terms}
use Rattle.flown.proofs.NextPlace.{same_motion}
use Rattle.flown.proofs.motion_after.Goals as goal

abbrev stored : ℤ → ℤ
stored v = to_z w64 (of_z w64 v)

pub returns : goal.returns
returns c =
    let m = c.args.second.sizes in
    let h = c.args.second.motion.height in
    let v = c.args.second.motion.speed in
    let g = c.args.second.motion.acceleration in
    same_motion
    (result {t = stored (stored (stored h +ℤ stored (pos 2 *ℤ stored v)) +ℤ stored g)} (search second_terms depth 20) tt)
    (result {t = stored (stored v +ℤ stored g)} (search second_terms depth 20) tt)
    (result {t = stored g} (search second_terms depth 20) tt)
