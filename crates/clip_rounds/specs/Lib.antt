pub mod Claims
pub mod Parts
pub mod Rounds
pub mod Tallies
