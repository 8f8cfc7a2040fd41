-- `binding_c::judge_flight` meets its contract: the numbers are kept as they are.
use Rattle.question.specs.declared.Encounter.{Encounter}
use Rattle.question.specs.declared.Settings.{Settings}
use Rattle.candidate.specs.declared.OneSidedAdvice.{OneSidedAdvice}
use Rattle.candidate.specs.FlightAnswers.{flight_answer}
use Rattle.binding.specs.Flight.{flat_flight}
use Rattle.binding.specs.declared.FlightResult.{FlightResult}
use Rattle.binding.proofs.StoredNumbers.{same_result, stored_flight}
use Rattle.binding_c.proofs.judge_flight.Goals as goal

pub returns : goal.returns
returns c =
    let f = c.ranges in
    let of : Encounter → Settings → OneSidedAdvice → FlightResult = λ x y z. flat_flight (flight_answer x y z c.args.flight.now) in
    stored_flight f.r f.h f.c f.v f.vi f.p f.k f.e f.sense f.target f.strength f.delay f.limit of
    (same_result of c.judge_flight.ensures c.plain_encounter.ensures c.plain_settings.ensures c.plain_advice.ensures)
