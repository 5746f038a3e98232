pub mod Passing
pub mod Blends
pub mod Weights
pub mod Reaches
