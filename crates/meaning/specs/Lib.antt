pub mod Moments
pub mod Gaps
pub mod Meanings
pub mod inner
