pub mod CodedRows
pub mod Cells
pub mod Codings
pub mod Parts
pub mod WholeRows
pub mod WholeCodes
pub mod ExactRows
