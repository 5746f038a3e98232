pub mod Cuts
pub mod Halves
pub mod Readings
pub mod Stops
pub mod ViewLines
pub mod ViewSteps
pub mod Written
