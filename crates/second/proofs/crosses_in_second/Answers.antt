-- `second::crosses_in_second` meets its contract: both approaches are tested on the near part, the way down turned over.
use Rattle.std.proofs.Common.{◌≡◌, ap, ap₂, ◌∙◌, ◌&&◌}
use Rattle.std.specs.Prelude.{ℤ, pos, ◌-ℤ◌, ◌*ℤ◌}
use mir.Syntax.{w64}
use mir.Val.{to_z, of_z}
use Rattle.integers.proofs.Machine.{result}
use Rattle.path.specs.Letters.{k, wh}
use Rattle.flight.specs.declared.Part.{Part}
use Rattle.flight.specs.inner.Tests.{reaches}
use Rattle.flight.specs.inner.Clamped.{most_gained, clamped}
use Rattle.second.specs.declared.Motion.{Motion}
use Rattle.second.proofs.Fields.{second_terms}
use Rattle.second.proofs.ClampedEdges.{turned_edge, clamping_changes_nothing}
use Rattle.second.proofs.crosses_in_second.Goals as goal

same_test : {edge edge' v v' g g' : ℤ} {part part' : Part} → edge ≡ edge' → v ≡ v' → g ≡ g' → part ≡ part' → reaches edge v g part ≡ reaches edge' v' g' part'
same_test e f h i = cc

pub returns : goal.returns
returns c =
    let s = c.args.s.sensed in
    let z = c.args.s.sizes in
    let motion = c.args.second.motion in
    let over = c.turned_over.ensures in
    let up = c.upwards-up.ensures in
    let down = c.upwards-down.ensures in
    let level : to_z w64 (of_z w64 (wh s)) ≡ wh s = result (search second_terms depth 20) tt in
    let turned : to_z w64 (of_z w64 (pos 0 -ℤ to_z w64 (of_z w64 (wh s)))) ≡ pos 0 -ℤ wh s = result (search second_terms depth 20) tt in
    let edge : ℤ → Motion → ℤ = λ x m. clamped most_gained (pos 2 *ℤ (x -ℤ pos (k s)) -ℤ m.height) in
    ap₂ ◌&&◌
    (c.reaches.ensures ∙ same_test (up.edge ∙ ap (λ (x : ℤ). edge x motion) level) up.speed up.acceleration c.near_part-part.ensures.value)
    (c.reaches-2.ensures
    ∙ same_test
    (down.edge ∙ ap₂ edge turned over ∙ ap (clamped most_gained) (turned_edge s motion))
    (down.speed ∙ ap (λ (m : Motion). m.speed) over)
    (down.acceleration ∙ ap (λ (m : Motion). m.acceleration) over)
    c.near_part-part.ensures.value)
    ∙ clamping_changes_nothing s motion c.args.second.n c.args.second.sizes
