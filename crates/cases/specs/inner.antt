pub mod LineKnown
