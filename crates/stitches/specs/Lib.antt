pub mod Sides
pub mod Adding
pub mod Closing
