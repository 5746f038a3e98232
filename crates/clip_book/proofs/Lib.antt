pub mod SeenRows
pub mod WholeRows
pub mod Paints
pub mod AnswersOf
pub mod Standing
pub mod Claiming
pub mod Listed
