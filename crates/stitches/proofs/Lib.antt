pub mod Walks
pub mod Ways
pub mod Added
pub mod Counted
pub mod Whole
