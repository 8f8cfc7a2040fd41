use Rattle.std.proofs.Common.{◌∙◌, sym}
use Rattle.cases.specs.declared.TheConstants.{LINE_END}
use Rattle.cases.proofs.FirstLine.{split_at_end, no_end}
use Rattle.cases.proofs.split_first_line.Goals as goal

pub returns-in-Some : goal.returns-in-Some
returns-in-Some c =
    let split = split_at_end LINE_END c.args.bytes.now c.in-Some.at (sym c.line_end.ensures ∙ c.in-Some.is) in
    (c.split_at.ensures.front ∙ split.0, c.split_at.ensures.back ∙ split.1)

pub returns-in-None : goal.returns-in-None
returns-in-None c = no_end LINE_END c.args.bytes.now (sym c.line_end.ensures ∙ c.in-None.is)
