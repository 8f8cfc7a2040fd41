-- `demands::two_instants_demanded` meets its contract: the answer at an instant is the answer at its value.
use Rattle.demands.proofs.InstantsRight.{one}
use Rattle.demands.proofs.two_instants_demanded.Goals as goal

pub returns : goal.returns
returns c =
    let given = c.args in
    one given.encounter given.settings given.question given.first given.second c.judge_at.result c.judge_at-2.result c.judge_at.ensures c.judge_at-2.ensures
