pub mod SoundRuns
pub mod Asked
pub mod Flights
pub mod Legal
