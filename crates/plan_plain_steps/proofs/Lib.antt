pub mod Ranges
pub mod Firsts
pub mod Kept
pub mod Inside
pub mod Placed
pub mod Moved
pub mod Stepped
