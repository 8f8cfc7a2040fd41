pub mod Answers
pub mod Demand3
pub mod Examples
pub mod Marked
pub mod Mirror
