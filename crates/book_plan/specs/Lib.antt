pub mod Found
pub mod Slots
pub mod Desks
pub mod Moves
pub mod Offered
pub mod Books
pub mod Starts
pub mod Notes
