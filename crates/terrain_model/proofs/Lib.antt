pub mod Sides
pub mod Heights
pub mod Rows
pub mod Known
