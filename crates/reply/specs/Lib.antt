pub mod AnswerBytes
