pub mod InstantExamples
