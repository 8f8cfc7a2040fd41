pub mod Pieces
pub mod RightPieces
pub mod Example
pub mod inner
