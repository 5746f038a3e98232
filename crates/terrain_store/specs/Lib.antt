pub mod Shapes
pub mod Stores
pub mod Blocks
