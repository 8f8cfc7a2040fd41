-- `second::upwards` meets its contract: the edge fits, and clamped it is the definition's.
use Rattle.std.proofs.Common.{◌≡◌, ap, ◌∙◌}
use Rattle.std.specs.Prelude.{ℤ, pos, ◌-ℤ◌, ◌*ℤ◌}
use borrow.Author.Rules.{sfits_of}
use mir.Syntax.{w64}
use mir.Val.{to_z, of_z}
use mir.Facts.{to_z-of_z}
use Rattle.limits.specs.Limits.{max_height, max_half_height}
use Rattle.integers.proofs.Machine.{bounded_absolute, bounded_word, result}
use Rattle.flight.specs.inner.Clamped.{most_gained, clamped}
use Rattle.second.proofs.Fields.{second_terms}
use Rattle.second.proofs.Clamping.{library_clamp}
use Rattle.second.proofs.upwards.Goals as goal

pub returns-clause-edge : goal.returns-clause-edge
returns-clause-edge c =
    let m = c.requires.sizes in
    let level = bounded_absolute c.args.level max_height c.requires.level_hi in
    let k = bounded_word c.args.k max_half_height c.requires.k_hi in
    let stored : ℤ = to_z w64 (of_z w64 (to_z w64 (of_z w64 (pos 2 *ℤ to_z w64 (of_z w64 (to_z w64 (of_z w64 c.args.level) -ℤ to_z w64 c.args.k)))) -ℤ to_z w64 (of_z w64 c.args.motion.height))) in
    let edge : stored ≡ pos 2 *ℤ (c.args.level -ℤ pos c.args.k) -ℤ c.args.motion.height
    = result (search second_terms depth 20) tt in
    to_z-of_z {w = w64} (sfits_of c.clamp.type_inv) ∙ c.clamp.ensures.value ∙ library_clamp most_gained stored ∙ ap (λ (t : ℤ). clamped most_gained t) edge
