pub mod Spans
pub mod Planned
pub mod Left
pub mod Met
