-- `stretches::count_within` meets its contract: the numbers are pairs, and half as many stretches are within the limits.
use Rattle.std.proofs.Common.{◌≡◌, sym, ap, ◌∙◌, Bool, ◌&&◌, eqb, leb, length, ◌/◌, ◌%◌, arith}
use Rattle.std.proofs.lemmas.Grind.{common_steps}
use Rattle.limits.specs.Limits.{min_stretches, max_stretches}
use Rattle.stretches.proofs.Pairs.{counted}
use Rattle.stretches.proofs.count_within.Goals as goal

pub returns : goal.returns
returns c =
    let l = c.args.flight.now in
    let few : c.contains.result ≡ (leb min_stretches (length l / 2) && leb (length l / 2) max_stretches) = grind (arith, common_steps) in
    ap (λ (b : Bool). eqb (length l % 2) 0 && b) few ∙ sym (counted l)
