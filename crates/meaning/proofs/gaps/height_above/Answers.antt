-- `gaps::height_above` meets its contract: up to d the delay says, then the rule, and both are small.
use mathlib.Core.Path.{sym, subst}
use native.Mathlib.Omega.{arith}
use Rattle.path.proofs.SideSizes.{sized_of}
use Rattle.meaning.specs.inner.Fractions.{IsAbove}
use Rattle.meaning.proofs.Above.{delay_is, rule_is}
use Rattle.meaning.proofs.gaps.height_above.Goals as goal

pub returns-then-t-end-clause-above : goal.returns-then-t-end-clause-above
returns-then-t-end-clause-above c =
    let asked = c.args.asked in
    subst (IsAbove asked.side asked.question.sensed c.args.t.n c.args.t.m) (sym c.delay_above.ensures.is)
    (delay_is asked.side asked.question.sensed c.args.t.n c.args.t.m c.if-t-end.true)

pub returns-clause-above : goal.returns-clause-above
returns-clause-above c =
    let asked = c.args.asked in
    subst (IsAbove asked.side asked.question.sensed c.args.t.n c.args.t.m) (sym c.rule_above.ensures.is)
    (rule_is asked.side asked.question.sensed c.args.t.n c.args.t.m (sized_of asked) (omega (arith, c.if-t-end.false)))
