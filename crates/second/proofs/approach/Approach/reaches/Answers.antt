-- `Approach::reaches` meets its contract: each product fits, and the joined tests are the definition's.
use Rattle.std.proofs.Common.{◌≡◌, ℕ, sym, ap, subst, ◌∙◌, arith}
use Rattle.integers.proofs.Machine.{fits, plain}
use Rattle.limits.specs.Limits.{max_closing_speed}
use Rattle.path.specs.declared.Side.TheVariants.{Lower}
use Rattle.path.specs.inner.Sizes.{InReach}
use Rattle.flight.specs.declared.Part.{Part}
use Rattle.flight.specs.declared.Part.TheVariants.{FromTo}
use Rattle.flight.specs.inner.Parts.{Proper, DivisorWithin}
use Rattle.flight.specs.inner.Tests.{reaches}
use Rattle.second.proofs.Fields.{second_terms, known}
use Rattle.second.proofs.approach.Approach.reaches.Goals as goal

-- z/y, the part's other end, is in reach too
last_reach : {part : Part} {x z y : ℕ} → Proper part → DivisorWithin max_closing_speed part → part ≡ FromTo x z y → InReach Lower z y
last_reach r d is =
    let proper = subst Proper is r in
    let divisor = subst (DivisorWithin max_closing_speed) is d in
    record { n_hi = omega arith; m_lo = omega arith; m_hi = omega arith }

pub overflow_mul-result : goal.overflow_mul-result
overflow_mul-result c = let z = c.args.self.sizes in let h = last_reach c.requires.proper c.requires.divisor_within c.in-FromTo.is in fits (search second_terms depth 20) tt

pub overflow_mul-result-in-FromTo : goal.overflow_mul-result-in-FromTo
overflow_mul-result-in-FromTo c = let z = c.args.self.sizes in let h = last_reach c.requires.proper c.requires.divisor_within c.in-FromTo.is in fits (search second_terms depth 20) tt

pub overflow_add-result : goal.overflow_add-result
overflow_add-result c = let z = c.args.self.sizes in let h = last_reach c.requires.proper c.requires.divisor_within c.in-FromTo.is in fits (search second_terms depth 20) tt

pub returns-in-FromTo : goal.returns-in-FromTo
returns-in-FromTo c =
    let z = c.args.self.sizes in
    let h = last_reach c.requires.proper c.requires.divisor_within c.in-FromTo.is in
    let first = known c.reaches_at-first.ensures in
    let last = known c.reaches_at-last.ensures in
    let top = known c.tops-top.ensures in
    plain (search second_terms depth 20) tt ∙ ap (reaches c.args.self.edge c.args.self.speed c.args.self.acceleration) (sym c.in-FromTo.is)

pub returns-in-From : goal.returns-in-From
returns-in-From c =
    let z = c.args.self.sizes in
    let first = known c.reaches_at-first-in-From.ensures in
    let top = known c.tops-top-in-From.ensures in
    plain (search second_terms depth 20) tt ∙ ap (reaches c.args.self.edge c.args.self.speed c.args.self.acceleration) (sym c.in-From.is)
