pub mod Divided
pub mod Fields
pub mod PositiveDifference
