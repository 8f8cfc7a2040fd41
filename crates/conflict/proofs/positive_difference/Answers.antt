-- `conflict::positive_difference` meets its contract: the difference and the product fit, and the product is `max0` of the difference.
use mathlib.Core.Path.{sym, ap, subst}
use native.Mathlib.Omega.{arith}
use lib.Dec.{T}
use lib.IntN.{ℤ, nat_abs}
use lib.Signed.{non_neg}
use mir.Syntax.{w64}
use mir.Val.{SFits}
use mir.Facts.{to_z-of_z, Fits-nat_abs}
use Rattle.conflict.proofs.PositiveDifference.{computed_fits, computed_is}
use Rattle.conflict.proofs.positive_difference.Goals as goal

pub overflow_cast-result-2 : goal.overflow_cast-result-2
overflow_cast-result-2 c =
    let h = c.requires.q_in_range in
    let k = c.requires.u_in_range in
    let f = computed_fits c.args.q c.args.u h k in
    (subst (λ (z : ℤ). T (non_neg z)) (sym (computed_is c.args.q c.args.u h k)) tt, Fits-nat_abs tt (subst (SFits w64) (sym (to_z-of_z f)) f))

pub returns : goal.returns
returns c =
    let h = c.requires.q_in_range in
    let k = c.requires.u_in_range in
    omega (arith, ap nat_abs (computed_is c.args.q c.args.u h k))
