-- The question that a one-sided advice asks. z is the advice.
use Rattle.std.specs.Prelude.{pos}
use Rattle.question.specs.declared.Question.{Question}
use Rattle.question.specs.declared.one_sided_advice.OneSidedAdvice.{OneSidedAdvice}

-- the same advice as a question for the judge: one-sided, so both upper fields are 0
abbrev pub asked : OneSidedAdvice → Question
asked z = record { sides = pos 1; sense = z.sense; target = z.target; upper_target = pos 0; strength = z.strength; upper_strength = pos 0; delay = z.delay; limit = z.limit }
