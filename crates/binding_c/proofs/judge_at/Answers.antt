-- `binding_c::judge_at` meets its contract: the numbers are kept as they are.
use Rattle.question.specs.declared.Encounter.{Encounter}
use Rattle.question.specs.declared.Settings.{Settings}
use Rattle.question.specs.declared.Question.{Question}
use Rattle.instant.specs.Order.{◌÷◌}
use Rattle.named_instant.specs.InstantAnswers.{instant_answer}
use Rattle.binding.specs.Instants.{flat_instant}
use Rattle.binding.specs.declared.InstantResult.{InstantResult}
use Rattle.binding.proofs.StoredNumbers.{same_result, stored_result}
use Rattle.binding_c.proofs.judge_at.Goals as goal

pub returns : goal.returns
returns c =
    let f = c.ranges in
    let of : Encounter → Settings → Question → InstantResult = λ x y z. flat_instant (instant_answer x y z (c.args.n ÷ c.args.m)) in
    stored_result f.r f.h f.c f.v f.vi f.p f.k f.e f.sides f.sense f.target f.upper_target f.strength f.upper_strength f.delay f.limit of
    (same_result of c.judge_at.ensures c.plain_encounter.ensures c.plain_settings.ensures c.plain_question.ensures)
