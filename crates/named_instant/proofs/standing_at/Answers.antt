-- `named_instant::standing_at` meets its contract: of a two-sided question the upper sizes are within the limits too.
use mathlib.Core.Path.{sym, ◌∙◌, subst}
use Rattle.path.specs.inner.Sizes.{UpperSizes}
use Rattle.sensed.proofs.AcceptedSizes.{accepted_upper_sizes}
use Rattle.named_instant.proofs.standing_at.Goals as goal

pub invariant_of-in_conflict : goal.invariant_of-in_conflict
invariant_of-in_conflict c =
    let asked = c.args.asked in
    record {
      upper_sizes = λ _. subst UpperSizes (sym c.sensed_question-question.ensures)
          (accepted_upper_sizes asked.encounter asked.settings asked.question asked.accepted (sym c.two_sided.ensures ∙ c.if-two_sided.true));
    }
