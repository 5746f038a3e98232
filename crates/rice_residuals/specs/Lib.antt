pub mod Bits
pub mod Code
pub mod Word
pub mod Reading
pub mod Faults
pub mod List
