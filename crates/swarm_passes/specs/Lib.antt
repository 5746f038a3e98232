pub mod Frames
pub mod Going
pub mod Drawing
pub mod Playing
pub mod Laws
