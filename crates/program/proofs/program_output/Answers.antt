-- The answer as it was put into the area; or a refusal's two bytes, where the area began with zeros.
use Rattle.std.proofs.Common.{sym, ap, ◌∙◌}
use Rattle.program.proofs.OutputLaws.{accepted_output, refused_output}
use Rattle.program.proofs.program_output.Goals.{in-Ok, in-Err}
use Rattle.program.proofs.program_output.Goals as goal

pub returns : goal.returns
returns c = elim c.match-answer_sheet.branch [
  | in-Ok w ↦
      let output = accepted_output c.args.sheet.now w.in-Ok.length (sym w.in-Ok.is ∙ c.answer_sheet.ensures.0) in
      (ap (λ r. r.1.0) w.result-is ∙ output.0, ap (λ r. r.0) w.result-is ∙ c.answer_sheet.ensures.1 ∙ output.1)
  | in-Err w ↦
      let output = refused_output c.args.sheet.now _ _ w.in-Err.why (sym w.in-Err.is ∙ c.answer_sheet.ensures.0) c.answer_sheet.ensures.1 w.number.ensures in
      (ap (λ r. r.1.0) w.result-is ∙ output.0, ap (λ r. r.0) w.result-is ∙ output.1)
]
