pub mod EarlierCodes
pub mod SenseNumbers
