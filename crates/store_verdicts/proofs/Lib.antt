pub mod Words
pub mod Codes
pub mod Pieces
pub mod Blocks
pub mod Levels
pub mod Heads
pub mod Stores
pub mod Verdicts
