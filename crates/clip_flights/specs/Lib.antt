pub mod Flights
pub mod Lines
