use Rattle.cases.proofs.Written.{displayed}
use Rattle.cases.proofs.line.output.LineOutput.display.Goals as goal

pub returns-in-Ok : goal.returns-in-Ok
returns-in-Ok g c =
    let gathered = c.write_gathered.ensures in
    displayed g.O.Write.contents c.args.self.now _ c.write_gathered.new.self _ (g.T.Display.output c.args.value.now) c.in-Ok.ensures.writes gathered.same_output gathered.written gathered.none_gathered
