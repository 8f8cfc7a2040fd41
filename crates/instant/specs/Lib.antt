pub mod Order
pub mod LowestTerms
pub mod Lowest
pub mod inner
