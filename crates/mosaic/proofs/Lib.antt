pub mod Extents
pub mod Parts
pub mod Owners
pub mod Twins
pub mod Judging
pub mod Joined
pub mod Alone
