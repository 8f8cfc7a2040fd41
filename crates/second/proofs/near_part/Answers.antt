-- `second::near_part` meets its contract: where the intruder closes in, the part's ends are those of the definition.
use Rattle.std.proofs.Common.{◌≡◌, refl, sym, ap₂, subst, ◌∙◌, ℕ, zero, suc, arith}
use Rattle.std.specs.Prelude.{ℤ, pos, ◌+ℤ◌, ◌-ℤ◌}
use mir.Syntax.{w64}
use mir.Val.{to_z, of_z}
use Rattle.limits.specs.Limits.{max_closing_speed}
use Rattle.integers.specs.Extremes.{max0}
use Rattle.integers.proofs.Machine.{equal_to, result, plain_call}
use Rattle.path.specs.Letters.{c, p}
use Rattle.path.specs.Window.{distance_at}
use Rattle.flight.specs.inner.Parts.{Proper, DivisorWithin, part_up_to, near_part}
use Rattle.flight.proofs.NearParts.{near_part_lem, near_divisor}
use Rattle.second.proofs.Fields.{second_terms, read_ahead}
use Rattle.second.proofs.near_part.Goals as goal

closing_in : (p : ℕ) (R : ℤ) (c : ℕ) → ¬ (c ≡ 0) → part_up_to c (max0 (R -ℤ pos p)) (R +ℤ pos p) ≡ near_part c p R
closing_in p R zero h = absurd (h refl)
closing_in p R (suc c) h = refl

pub returns-clause-value : goal.returns-clause-value
returns-clause-value k =
    let s = k.args.s.sensed in
    let R = distance_at s k.args.second.n 1 in
    let z = k.args.s.sizes in
    let v = equal_to k.distance_at-ahead.ensures (read_ahead s k.args.second.n z k.args.second.early) in
    let from : k.positive_part.result ≡ max0 (R -ℤ pos (p s)) = plain_call k.positive_part.ensures (search second_terms depth 20) tt in
    let end : to_z w64 (of_z w64 (to_z w64 (of_z w64 k.distance_at-ahead.result) +ℤ to_z w64 (p s))) ≡ R +ℤ pos (p s) = result (search second_terms depth 20) tt in
    k.part_up_to.ensures
    ∙ ap₂ (λ (i : ℕ) (e : ℤ). part_up_to (c s) i e) from end
    ∙ closing_in (p s) R (c s) k.if-c-eq0.false

pub returns-clause-proper : goal.returns-clause-proper
returns-clause-proper k =
    let s = k.args.s.sensed in
    subst Proper (sym (returns-clause-value k)) (near_part_lem (c s) (p s) (distance_at s k.args.second.n 1)).proper

pub returns-clause-divisor_within : goal.returns-clause-divisor_within
returns-clause-divisor_within k =
    let s = k.args.s.sensed in
    subst (DivisorWithin max_closing_speed) (sym (returns-clause-value k)) (near_divisor max_closing_speed (c s) (p s) (distance_at s k.args.second.n 1) (omega arith) k.args.s.sizes.c_hi)
