-- `conflict::speed_after_delay` meets its contract: the product fits, and the sum is the definition's.
use mathlib.Core.Path.{◌≡◌, refl, ◌∙◌}
use mathlib.Core.List.{[], ◌∷◌}
use lib.IntN.{pos, ◌+ℤ◌, ◌*ℤ◌}
use Rattle.integers.proofs.Quotation.{quote}
use Rattle.integers.proofs.Certificates.{ring}
use Rattle.integers.proofs.Machine.{fits, result}
use Rattle.path.specs.declared.SensedQuestion.{SensedQuestion}
use Rattle.path.specs.declared.Side.{Side}
use Rattle.path.specs.declared.Side.TheVariants.{Lower, Upper}
use Rattle.path.specs.Letters.{u, d, e}
use Rattle.conflict.specs.inner.Divided.{bend, speed_after_delay}
use Rattle.conflict.proofs.Fields.{numbers, read_bend}
use Rattle.conflict.proofs.speed_after_delay.Goals as goal

bend-speed : (side : Side) (s : SensedQuestion) → u s +ℤ bend side s *ℤ pos (d s) ≡ speed_after_delay side s
bend-speed Lower s = ring (e s ∷ d s ∷ []) (u s ∷ []) (λ v. search quote depth 20) tt
bend-speed Upper s = refl

pub overflow_mul-result : goal.overflow_mul-result
overflow_mul-result c =
    let z = c.args.question.sizes in
    let bend = read_bend c.args.side c.args.question c.delay_bend-bend.ensures in
    fits (search numbers depth 20) tt

pub overflow_add-result : goal.overflow_add-result
overflow_add-result c =
    let z = c.args.question.sizes in
    let bend = read_bend c.args.side c.args.question c.delay_bend-bend.ensures in
    fits (search numbers depth 20) tt

pub returns : goal.returns
returns c =
    let z = c.args.question.sizes in
    let bend = read_bend c.args.side c.args.question c.delay_bend-bend.ensures in
    result (search numbers depth 20) tt ∙ bend-speed c.args.side c.args.question.sensed
