pub mod AnswerBound
pub mod AnswerOfReplies
pub mod RecordsInOrder
pub mod WholeSheetRefusals
pub mod OutcomeRecords
pub mod ExampleHolds
