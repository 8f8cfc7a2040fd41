-- Definitions that only inner contracts use; an instructor need not read them.
pub mod BySeconds
pub mod Parts
pub mod Tests
pub mod Clamped
