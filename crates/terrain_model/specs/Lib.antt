pub mod Terrain
pub mod Voids
pub mod Tile
pub mod Mosaic
pub mod Name
pub mod Laws
