pub mod Results
pub mod Blocks
