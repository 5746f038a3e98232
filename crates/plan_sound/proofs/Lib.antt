pub mod Placed
pub mod Parts
pub mod Actives
pub mod Soundness
pub mod Sizes
