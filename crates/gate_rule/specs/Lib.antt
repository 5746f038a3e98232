pub mod Flags
pub mod Rule
pub mod Plays
pub mod Steps
