pub mod Squares
pub mod Boxes
pub mod Added
pub mod Laws
pub mod Listed
