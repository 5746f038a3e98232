pub mod Below
pub mod Flights
