pub mod RefusedAsAsked
pub mod FlightRecords
