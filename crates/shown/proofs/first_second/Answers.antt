-- `shown::first_second` meets its contract. The loop's invariant: the path is beyond the intruder at lo and not at hi; where they meet, hi is the first
-- second. The measure is hi - lo.
use mathlib.Core.Path.{sym, subst}
use Prim.Native.Nat.{ℕ}
use native.Mathlib.Omega.{arith}
use Rattle.path.specs.inner.Sizes.{search_start}
use Rattle.path.proofs.SideSizes.{sized_of}
use Rattle.shown.proofs.Steps.{Bracket, bracket_start, bracket_found}
use Rattle.shown.proofs.first_second.Goals as goal

pub loop-hi-init : goal.loop-hi-init
loop-hi-init c =
    let side = c.args.asked.side in
    let s = c.args.asked.question.sensed in
    subst (λ (lo : ℕ). Bracket side s lo c.search_end-hi.result) (sym c.search_start-lo.ensures)
    (subst (λ (hi : ℕ). Bracket side s (search_start side s) hi) (sym c.search_end-hi.ensures) (bracket_start side s (sized_of c.args.asked) c.requires))

pub returns : goal.returns
returns c =
    let k = c.loop-hi in
    bracket_found c.args.asked.side c.args.asked.question.sensed (sized_of c.args.asked) c.requires k.lo k.hi k.invariant (omega (arith, c.loop-hi-test.false))
