pub mod Numbers
pub mod Quotients
pub mod Cells
pub mod Sizes
pub mod Gaps
