-- `shown::turning_instant` meets its contract: -u_d fits, and the numerator is small.
use Rattle.std.specs.Prelude.{Some}
use mathlib.Core.Path.{◌≡◌, ap, ◌∙◌}
use Prim.Native.Nat.{ℕ, ◌+◌, ◌*◌}
use lib.IntN.{neg_ℤ}
use Rattle.integers.specs.Extremes.{max0}
use Rattle.integers.proofs.Machine.{bounded, bounded_absolute, equal_to, machine, failed, plain_terms, plain_call}
use Rattle.instant.specs.Order.{◌÷◌}
use Rattle.path.specs.declared.Side.TheVariants.{Lower}
use Rattle.path.specs.Paths.{u_d}
use Rattle.path.specs.inner.Sizes.{max_speed_difference, max_speed_after_delay}
use Rattle.conflict.proofs.Fields.{after_delay_size}
use Rattle.shown.proofs.CodeTurning.{turning, zero_minus}
use Rattle.shown.proofs.turning_instant.Goals as goal

pub returns : goal.returns
returns c =
    let s = c.args.question.sensed in
    let z = c.args.question.sizes in
    let q = bounded s.target max_speed_difference z.q_lo z.q_hi in
    let v = equal_to c.speed_after_delay-speed.ensures (bounded_absolute (u_d s) max_speed_after_delay (after_delay_size s z Lower)) in
    let back : c.positive_part.result ≡ max0 (neg_ℤ (u_d s)) = plain_call c.positive_part.ensures (search plain_terms depth 20) tt ∙ zero_minus (u_d s) in
    ap (λ (n : ℕ). Some (s.delay * s.strength + n ÷ s.strength)) back ∙ turning s.strength s.delay (u_d s) s.target (failed c.if-question-lt0.false (search machine) tt)
