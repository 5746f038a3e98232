pub mod Apart
pub mod Kept
pub mod Laws
pub mod Changes
pub mod Stuck
