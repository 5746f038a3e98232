pub mod Ends
mod Examples
pub mod Writing
