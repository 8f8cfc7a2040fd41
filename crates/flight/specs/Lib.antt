pub mod Flight
pub mod FlightLimits
pub mod HandedIn
pub mod SensedFlight
pub mod Obeying
pub mod Inside
pub mod PlainNumbers
pub mod inner
