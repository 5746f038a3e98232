pub mod FloorDivision
pub mod Regions
