pub mod Appended
pub mod Levels
pub mod Samples
pub mod Pieces
pub mod Renumbered
