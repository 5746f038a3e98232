pub mod Jobs
pub mod Lists
pub mod Stays
pub mod Texts
