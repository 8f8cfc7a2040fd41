pub mod SameValue
pub mod JudgedByValue
pub mod InReach
