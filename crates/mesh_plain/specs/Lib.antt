pub mod Cells
pub mod Strips
pub mod Rings
pub mod Frames
pub mod Blocks
