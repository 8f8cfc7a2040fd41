-- `meaning::meaning_of` meets its contract: of a two-sided question the upper sizes are within the limits too.
use mathlib.Core.Path.{sym, subst}
use Rattle.path.specs.inner.Sizes.{UpperSizes}
use Rattle.sensed.proofs.AcceptedSizes.{accepted_upper_sizes}
use Rattle.meaning.proofs.meaning_of.Goals as goal

pub finding_on-requires : goal.finding_on-requires
finding_on-requires c =
    let asked = c.args.asked in
    λ two. subst UpperSizes (sym c.sensed_question-s.ensures) (accepted_upper_sizes asked.encounter asked.settings asked.question asked.accepted two)
