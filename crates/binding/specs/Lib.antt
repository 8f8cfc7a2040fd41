pub mod PlainNumbers
pub mod Flat
pub mod Screen
pub mod Flight
pub mod Instants
pub mod Coded
