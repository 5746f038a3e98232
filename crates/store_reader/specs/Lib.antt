pub mod Headers
pub mod Places
pub mod Decoding
pub mod Tables
pub mod Reading
