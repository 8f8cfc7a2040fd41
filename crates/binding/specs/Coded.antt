-- The question that a code asks as a struct of numbers, as it crosses to C and Rust, with 0 in the fields that are not used.
use Rattle.std.specs.Prelude.{pos, Err, Ok, Result}
use Rattle.question.specs.declared.Question.{Question}
use Rattle.question.specs.declared.refusal.Refusal.{Refusal}
use Rattle.question.specs.RefusalNumbers.{refusal_number}
use Rattle.binding.specs.declared.QuestionResult.{QuestionResult}

-- the refusal's number, or the question's fields
abbrev pub flat_question : Result Question Refusal → QuestionResult
flat_question (Err why) = record {
  refusal = refusal_number why;
  sides = pos 0;
  sense = pos 0;
  target = pos 0;
  upper_target = pos 0;
  strength = pos 0;
  upper_strength = pos 0;
  delay = pos 0;
  limit = pos 0;
}
flat_question (Ok z) = record {
  refusal = 0;
  sides = z.sides;
  sense = z.sense;
  target = z.target;
  upper_target = z.upper_target;
  strength = z.strength;
  upper_strength = z.upper_strength;
  delay = z.delay;
  limit = z.limit;
}
