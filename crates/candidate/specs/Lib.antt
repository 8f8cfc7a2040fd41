pub mod Advice
pub mod FlightAnswers
