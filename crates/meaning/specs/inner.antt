-- Definitions that only inner contracts use; an instructor need not read them.
pub mod Fractions
