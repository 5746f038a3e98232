pub mod Core
pub mod States
pub mod Claims
pub mod Starts
