pub mod Plain
pub mod Regions
pub mod Heights
