-- What is proved of a run.
pub mod Begun
pub mod Shares
pub mod Outcomes
pub mod Lands
pub mod Crossings
