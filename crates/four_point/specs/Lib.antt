pub mod Prediction
pub mod Patches
pub mod Steps
pub mod Laws
pub mod Blocks
