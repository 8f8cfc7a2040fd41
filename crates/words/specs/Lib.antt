pub mod Texts
pub mod InstantTexts
pub mod NamedInstants
pub mod MeaningTexts
pub mod Meanings
