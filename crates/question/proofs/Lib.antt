pub mod WithinLimits
pub mod EarlierAdvice
pub mod EarlierTimes
pub mod RefusalNumbers
