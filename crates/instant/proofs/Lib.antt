pub mod Euclid
pub mod FactorsOfTwo
pub mod TimeOrder
pub mod LowestTerms
