pub mod SameTests
pub mod FirstOf
pub mod Steps
pub mod OpenWindow
pub mod RulePicks
pub mod InstantsInReach
pub mod CodeTurning
pub mod WithoutDelay
