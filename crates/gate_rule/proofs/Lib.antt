-- What is proved of the rule of the gate.
pub mod Sums
pub mod FlagLaws
pub mod Moved
pub mod TurnSteps
pub mod Seats
pub mod Calls
