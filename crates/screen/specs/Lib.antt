pub mod Floats
pub mod Drawings
pub mod Points
pub mod RightScreen
