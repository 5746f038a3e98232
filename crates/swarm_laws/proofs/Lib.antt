-- What is proved of the runs of a swarm.
pub mod Own
pub mod Interleaved
pub mod Adding
pub mod Whole
pub mod Frames
pub mod Turns
pub mod Lengths
pub mod Blocks
