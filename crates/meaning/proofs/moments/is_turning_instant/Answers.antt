-- `moments::is_turning_instant` meets its contract: -u_d fits, and the numerator is small.
use mathlib.Core.Path.{◌≡◌, sym, ap, ◌∙◌, subst}
use native.Mathlib.Nat.{mul-le-mul}
use native.Mathlib.Omega.{arith}
use Prim.Native.Nat.{ℕ, ◌+◌, ◌*◌}
use lib.IntN.{neg_ℤ}
use Rattle.integers.specs.Extremes.{max0}
use Rattle.integers.proofs.Machine.{bounded, bounded_absolute, equal_to, machine, passed, plain_terms, plain_call}
use Rattle.std.specs.Prelude.{Option}
use Rattle.instant.specs.declared.Instant.{Instant}
use Rattle.instant.specs.Order.{◌÷◌}
use Rattle.instant.specs.inner.Sizes.{SizedInstant}
use Rattle.path.specs.declared.Side.TheVariants.{Lower}
use Rattle.path.specs.Paths.{u_d}
use Rattle.path.specs.inner.Sizes.{max_speed_difference, max_speed_after_delay}
use Rattle.conflict.proofs.Fields.{after_delay_size}
use Rattle.window.proofs.EndsInReach.{near_sized}
use Rattle.shown.proofs.CodeTurning.{turning, zero_minus}
use Rattle.shown.proofs.InstantsInReach.{back_size, turning_near}
use Rattle.meaning.specs.Moments.{same_time, is_instant}
use Rattle.meaning.proofs.Instants.{compared_sized}
use Rattle.meaning.proofs.moments.is_turning_instant.Goals as goal

pub overflow_add-s : goal.overflow_add-s
overflow_add-s c =
    let s = c.args.question.sensed in
    let z = c.args.question.sizes in
    let v = equal_to c.speed_after_delay.ensures (bounded_absolute (u_d s) max_speed_after_delay (after_delay_size s z Lower)) in
    let back : c.positive_part-behind.result ≡ max0 (neg_ℤ (u_d s)) = plain_call c.positive_part-behind.ensures (search plain_terms depth 20) tt ∙ zero_minus (u_d s) in
    omega (arith, back, back_size s z, mul-le-mul z.d_hi z.a_hi)

pub same_time-requires : goal.same_time-requires
same_time-requires c =
    let s = c.args.question.sensed in
    let z = c.args.question.sizes in
    let v = equal_to c.speed_after_delay.ensures (bounded_absolute (u_d s) max_speed_after_delay (after_delay_size s z Lower)) in
    let back : c.positive_part-behind.result ≡ max0 (neg_ℤ (u_d s)) = plain_call c.positive_part-behind.ensures (search plain_terms depth 20) tt ∙ zero_minus (u_d s) in (
      compared_sized c.args.t c.requires,
      subst (λ (n : ℕ). SizedInstant (s.delay * s.strength + n ÷ s.strength)) (sym back) (near_sized _ (turning_near s z)),
    )

pub returns-then-s-ge0 : goal.returns-then-s-ge0
returns-then-s-ge0 c =
    let s = c.args.question.sensed in
    let z = c.args.question.sizes in
    let t = c.args.t in
    let q = bounded s.target max_speed_difference z.q_lo z.q_hi in
    let v = equal_to c.speed_after_delay.ensures (bounded_absolute (u_d s) max_speed_after_delay (after_delay_size s z Lower)) in
    let back : c.positive_part-behind.result ≡ max0 (neg_ℤ (u_d s)) = plain_call c.positive_part-behind.ensures (search plain_terms depth 20) tt ∙ zero_minus (u_d s) in
    c.same_time.ensures
    ∙ ap (λ (n : ℕ). same_time t (s.delay * s.strength + n ÷ s.strength)) back
    ∙ ap (λ (o : Option Instant). is_instant o t) (turning s.strength s.delay (u_d s) s.target (passed c.if-s-ge0.true (search machine) tt))
