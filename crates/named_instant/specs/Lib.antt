pub mod Reach
pub mod InstantAnswers
