pub mod Runs
pub mod Shares
pub mod Closings
pub mod Turns
pub mod Laws
