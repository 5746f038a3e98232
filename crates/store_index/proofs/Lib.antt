pub mod Lists
pub mod Walks
pub mod Stores
pub mod Counts
pub mod Marks
