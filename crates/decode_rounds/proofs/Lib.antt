pub mod Zipped
pub mod Homes
