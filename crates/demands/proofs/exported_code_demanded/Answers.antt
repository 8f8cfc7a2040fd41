-- `demands::exported_code_demanded` meets its contract: speed and limit are handed on as they are.
use mathlib.Core.Path.{ap₂, ◌∙◌}
use lib.IntN.{ℤ}
use mir.Facts.{to_z-of_z}
use Rattle.coded.specs.Coded.{coded_question}
use Rattle.binding.specs.Coded.{flat_question}
use Rattle.demands.proofs.CodesAsked.{rightly_coded}
use Rattle.demands.proofs.exported_code_demanded.Goals as goal

pub returns : goal.returns
returns c =
    rightly_coded c.args.code c.args.v c.args.limit c.coded_question.result
    (c.coded_question.ensures ∙ ap₂ (λ (v limit : ℤ). flat_question (coded_question c.args.code v limit)) (to_z-of_z c.ranges.v) (to_z-of_z c.ranges.limit))
