pub mod Pinned
pub mod Counts
