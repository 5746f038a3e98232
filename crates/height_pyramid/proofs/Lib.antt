pub mod ExtremeLemmas
pub mod SampleLemmas
