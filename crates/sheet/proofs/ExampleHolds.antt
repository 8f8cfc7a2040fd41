-- Document 01's whole example: its sheet is accepted with the answer that it prints. The question is M5, which the judge's table answers. Assumes nothing.
use Rattle.std.specs.Prelude.{Ok}
use mathlib.Core.Path.{◌≡◌, refl, ap, ◌∙◌}
use mathlib.Core.List.{List, [], append-nil}
use lib.ListN.{get_or}
use Rattle.judge.specs.Answers.{AnswerRecord, answers}
use Rattle.judge.specs.Examples.{examples}
use Rattle.judge.proofs.ExamplesHold.{examples_hold}
use Rattle.record.specs.Numbers.{number_at}
use Rattle.record.specs.Records.{encounter_in, question_in, records_after}
use Rattle.record.specs.SheetCheck.{fault_after, sheet_check}
use Rattle.reply.specs.AnswerBytes.{record_bytes}
use Rattle.answering.specs.States.{state_after}
use Rattle.answering.specs.Replies.{free_answer, reply_to}
use Rattle.sheet.specs.WholeSheet.{answers_from, sheet_answer}
use Rattle.sheet.specs.Example.{example_sheet, example_answer}

pub example_accepted : sheet_check example_sheet ≡ Ok tt
unfolding example_sheet fault_after
example_accepted = refl

pub example_answer_lem : sheet_answer example_sheet ≡ example_answer
unfolding example_sheet records_after number_at encounter_in question_in state_after free_answer reply_to answers_from examples
example_answer_lem = append-nil _ ∙ ap (λ (l : List AnswerRecord). record_bytes (get_or l 4 (answers 0 []))) examples_hold
