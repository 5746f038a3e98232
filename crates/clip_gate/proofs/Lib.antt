-- What is proved of the calls over a clip.
pub mod Promises
pub mod Seatings
pub mod Frames
pub mod ReadRows
pub mod Placed
pub mod Crossings
