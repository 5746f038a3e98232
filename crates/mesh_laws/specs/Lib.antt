pub mod Rings
pub mod Stitches
pub mod Squares
pub mod Conditions
pub mod Laws
pub mod Seams
