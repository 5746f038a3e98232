pub mod Ranges
pub mod Flown
pub mod Legal
pub mod Areas
pub mod SameAnswers
