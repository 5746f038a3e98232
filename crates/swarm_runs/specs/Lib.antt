pub mod Products
pub mod Puts
pub mod Shown
