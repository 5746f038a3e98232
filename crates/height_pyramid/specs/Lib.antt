pub mod Extremes
pub mod Reach
