-- `screen::side_of` meets its contract: of a two-sided question the upper sizes are within the limits too.
use mathlib.Core.Path.{sym, subst}
use Rattle.path.specs.inner.Sizes.{UpperSizes}
use Rattle.sensed.proofs.AcceptedSizes.{accepted_upper_sizes}
use Rattle.screen.proofs.side_of.Goals as goal

pub invariant_of-result : goal.invariant_of-result
invariant_of-result c =
    let asked = c.args.asked in
    record {
      upper_sizes = λ upper. subst UpperSizes (sym c.sensed_question.ensures)
          (accepted_upper_sizes asked.encounter asked.settings asked.question asked.accepted (c.requires upper));
    }
