pub mod States
pub mod Replies
pub mod InstantReplies
pub mod MeaningReplies
