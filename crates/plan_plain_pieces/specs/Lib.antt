pub mod Spans
pub mod Placed
