pub mod StartingSettings
pub mod RefusalNumbers
pub mod Refusals
pub mod OneSided
