pub mod Scan
pub mod CheckByKinds
