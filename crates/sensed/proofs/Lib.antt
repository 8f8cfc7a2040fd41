pub mod AcceptedSizes
pub mod PlainFields
