-- `binding_c::upper_point` meets its contract: the numbers are kept as they are.
use Rattle.question.specs.declared.Encounter.{Encounter}
use Rattle.question.specs.declared.Settings.{Settings}
use Rattle.question.specs.declared.Question.{Question}
use Rattle.screen.specs.Points.{upper_point}
use Rattle.binding.specs.Screen.{flat_upper_point}
use Rattle.binding.specs.declared.UpperPointResult.{UpperPointResult}
use Rattle.binding.proofs.StoredNumbers.{same_result, stored_result}
use Rattle.binding_c.proofs.upper_point.Goals as goal

pub returns : goal.returns
returns c =
    let f = c.ranges in
    let of : Encounter → Settings → Question → UpperPointResult = λ x y z. flat_upper_point (upper_point x y z c.args.second) in
    stored_result f.r f.h f.c f.v f.vi f.p f.k f.e f.sides f.sense f.target f.upper_target f.strength f.upper_strength f.delay f.limit of
    (same_result of c.upper_point.ensures c.plain_encounter.ensures c.plain_settings.ensures c.plain_question.ensures)
