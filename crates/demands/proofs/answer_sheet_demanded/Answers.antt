-- The entry for sheets meets the demands: its contract gives the outcome and the area of the definitions.
use Rattle.demands.proofs.SheetAnswers.{rightly}
use Rattle.demands.proofs.answer_sheet_demanded.Goals as goal

pub returns : goal.returns
returns c = rightly c.args.sheet.now c.args.area.now _ c.answer_sheet.result c.answer_sheet.ensures
