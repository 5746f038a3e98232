pub mod Desks
pub mod Frames
pub mod Lines
pub mod Plays
