pub mod Predicting
pub mod Filling
pub mod SameMesh
pub mod Showing
pub mod Copying
pub mod OneTerrain
