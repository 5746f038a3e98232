pub mod NameLemmas
pub mod TileLemmas
