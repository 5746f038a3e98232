pub mod Legal
pub mod Parts
pub mod Places
pub mod Runs
