pub mod Fields
pub mod Clamping
pub mod NearSeconds
pub mod ClampedEdges
