pub mod Lines
pub mod Ranges
pub mod Reading
pub mod Scripts
pub mod Steps
pub mod Texts
pub mod Views
