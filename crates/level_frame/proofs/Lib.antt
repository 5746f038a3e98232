pub mod Numbers
pub mod Centers
pub mod Corners
