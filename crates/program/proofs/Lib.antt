pub mod OutputLaws
pub mod ReadEnough
