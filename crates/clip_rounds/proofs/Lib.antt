pub mod Parts
pub mod Flown
pub mod OneEvent
pub mod RoundSteps
