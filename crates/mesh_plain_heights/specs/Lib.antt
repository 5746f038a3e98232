pub mod Placed
pub mod Drawn
