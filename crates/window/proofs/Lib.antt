pub mod Fields
pub mod CodeStart
pub mod EndsInReach
pub mod FirstTime
