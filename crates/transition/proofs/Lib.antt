pub mod Weights
pub mod Halves
