pub mod FileMap
pub mod Fronts
pub mod Told
