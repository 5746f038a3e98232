pub mod Pieces
pub mod Finished
pub mod Needs
pub mod Tiles
pub mod Hulls
pub mod Drawn
pub mod Areas
