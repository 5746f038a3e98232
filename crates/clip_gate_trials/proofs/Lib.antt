-- Lemmas of the trials.
pub mod Crossings
