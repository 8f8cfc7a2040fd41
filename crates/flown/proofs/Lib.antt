pub mod LeftAt
pub mod WithinLimits
pub mod NextPlace
pub mod Seconds
pub mod PlacesLeft
