pub mod StoredNumbers
pub mod Zero
pub mod GreaterCodes
