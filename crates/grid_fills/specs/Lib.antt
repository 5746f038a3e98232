pub mod Holding
pub mod Filling
