pub mod Fills
pub mod Drawn
pub mod Copies
pub mod Lent
