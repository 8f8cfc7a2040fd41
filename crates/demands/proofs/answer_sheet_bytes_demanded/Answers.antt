-- The exported entry for sheets meets the demands: its two numbers hold the outcome of the definitions.
use Rattle.demands.proofs.Exported.{sheet_exported}
use Rattle.demands.proofs.answer_sheet_bytes_demanded.Goals as goal

pub returns : goal.returns
returns c = sheet_exported c.args.sheet.now c.args.area.now _ c.answer_sheet_bytes.result c.answer_sheet_bytes.ensures
