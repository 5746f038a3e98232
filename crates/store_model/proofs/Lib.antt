pub mod Outside
pub mod Restoring
pub mod Canonical
pub mod RestoredLevels
pub mod Stores
pub mod ByOne
