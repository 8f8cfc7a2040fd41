pub mod StoredWithinLimits
pub mod RefusalOrder
pub mod Kept
