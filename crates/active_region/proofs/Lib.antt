pub mod Regions
pub mod Drawn
pub mod Kept
pub mod Samples
