pub mod Halts
pub mod Logs
