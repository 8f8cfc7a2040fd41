-- `sensed::sensed_question` meets its contract: an accepted question is small.
use mathlib.Core.Path.{sym, subst}
use Rattle.path.specs.inner.Sizes.{Sizes}
use Rattle.sensed.proofs.AcceptedSizes.{accepted_sizes}
use Rattle.sensed.proofs.sensed_question.Goals as goal

pub invariant_of-result : goal.invariant_of-result
invariant_of-result c =
    let asked = c.args.asked in
    record { sizes = subst Sizes (sym c.in_sense.ensures) (accepted_sizes asked.encounter asked.settings asked.question asked.accepted) }
