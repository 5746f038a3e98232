pub mod Places
pub mod Grids
pub mod Laws
pub mod Shown
pub mod Patches
