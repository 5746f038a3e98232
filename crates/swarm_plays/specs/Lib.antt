pub mod Journals
pub mod Puts
pub mod Laws
