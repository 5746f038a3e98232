pub mod TileView
pub mod Fault
