pub mod Sizes
pub mod Blocks
pub mod Format
pub mod Store
pub mod Restored
pub mod Faults
pub mod Laws
