pub mod Entries
pub mod Cells
pub mod Tables
pub mod Coarser
