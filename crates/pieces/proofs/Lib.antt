pub mod Fields
pub mod PathPieces
pub mod ExampleHolds
