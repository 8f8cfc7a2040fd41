pub mod TimeRule
pub mod TimeShown
pub mod inner
