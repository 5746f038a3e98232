mod After
pub mod Drawn
mod Waits
