pub mod Tiles
pub mod Jobs
pub mod Answers
pub mod Books
pub mod Reading
pub mod Laws
