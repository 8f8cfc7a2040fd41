pub mod EveryBelow
pub mod CodeRanges
pub mod SameInstruction
pub mod TablesAgree
pub mod Limits
pub mod Rows
