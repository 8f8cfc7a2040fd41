-- `window::opening` meets its contract: r + p and r - p fit, and each branch is a case of `FirstTime`.
use mathlib.Core.Path.{sym, ap, ◌∙◌, subst}
use mathlib.Core.Bool.{Bool}
use Prim.Native.Nat.{ℕ}
use lib.Dec.{eqb}
use Rattle.std.specs.Bool.{then_some}
use Rattle.integers.proofs.Machine.{passed, failed, plain_call}
use Rattle.instant.specs.Order.{◌÷◌}
use Rattle.path.specs.declared.Side.TheVariants.{Upper}
use Rattle.path.specs.inner.Tests.{in_time}
use Rattle.path.specs.inner.Sizes.{InReach}
use Rattle.path.proofs.Reach.{lower_in_upper}
use Rattle.window.proofs.Fields.{numbers}
use Rattle.window.proofs.EndsInReach.{moving_start_near}
use Rattle.window.proofs.FirstTime.{passed_opening, still_opening, moving_opening}
use Rattle.window.proofs.opening.Goals as goal

pub returns-then-r-p-lt0 : goal.returns-then-r-p-lt0
returns-then-r-p-lt0 c = let z = c.args.question.sizes in passed_opening c.args.question.sensed (passed c.if-r-p-lt0.true (search numbers depth 20) tt)

pub returns-then-c-eq0 : goal.returns-then-c-eq0
returns-then-c-eq0 c =
    let z = c.args.question.sizes in
    c.then_some.ensures
    ∙ ap (λ (n : ℕ). then_some (eqb n 0) (0 ÷ 1)) (plain_call c.positive_part-ahead.ensures (search numbers depth 20) tt)
    ∙ still_opening c.args.question.sensed c.if-c-eq0.true (failed c.if-r-p-lt0.false (search numbers depth 20) tt)

pub in_time-requires-clause-in_reach : goal.in_time-requires-clause-in_reach
in_time-requires-clause-in_reach c =
    let s = c.args.question.sensed in
    let z = c.args.question.sizes in
    subst (λ (n : ℕ). InReach Upper n s.closing_speed) (sym (plain_call c.positive_part-ahead.ensures (search numbers depth 20) tt)) (lower_in_upper (moving_start_near s z c.if-c-eq0.false))

pub returns : goal.returns
returns c =
    let z = c.args.question.sizes in
    let s = c.args.question.sensed in
    c.then_some-2.ensures
    ∙ ap (λ (held : Bool). then_some held (c.positive_part-ahead.result ÷ s.closing_speed)) c.in_time.ensures
    ∙ ap (λ (n : ℕ). then_some (in_time s.limit n s.closing_speed) (n ÷ s.closing_speed)) (plain_call c.positive_part-ahead.ensures (search numbers depth 20) tt)
    ∙ moving_opening s c.if-c-eq0.false (failed c.if-r-p-lt0.false (search numbers depth 20) tt)
