pub mod ExampleAnswers
pub mod ExamplesHold
pub mod AnswerRecords
pub mod Demand3
pub mod ExamplesRight
pub mod Mirror
pub mod WithoutDelay
