use Rattle.std.proofs.Common.{rules, ◌<◌, [], length, arith}
use Rattle.std.specs.Int.{w64, from_be_bytes}
use Rattle.std.proofs.lemmas.List.{take_more_set, map_more, take_all}
use Rattle.cases.proofs.numbers_in.Goals as goal

pub loop-k-preserved : goal.loop-k-preserved
loop-k-preserved g c =
    let within : c.loop-k.k < length c.args.case.now = omega arith in
    let more = map_more (from_be_bytes w64) c.args.case.now c.loop-k.k [] within in
    search (rules, take_more_set, more)

pub returns : goal.returns
returns g c = search (rules, take_all)
