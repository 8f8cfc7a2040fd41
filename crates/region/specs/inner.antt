-- Definitions that only proofs and inner contracts use; an instructor need not read them.
pub mod ClearExactly
pub mod Holds
pub mod RegionExamples
