pub mod Numbers
pub mod PlaceLaws
pub mod Written
pub mod TileRows
pub mod TilesAt
pub mod RowHeights
pub mod Patches
