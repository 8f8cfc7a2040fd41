pub mod Decided
pub mod CaseExamples
pub mod Corners
pub mod Immediate
pub mod Delayed
pub mod RegionTheorem
pub mod VerdictRegion
pub mod ExamplesRegion
