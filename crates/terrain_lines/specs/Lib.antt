pub mod Extremes
pub mod Faults
pub mod Lines
