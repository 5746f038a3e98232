pub mod SumLemmas
pub mod PredictionLemmas
pub mod AroundLemmas
pub mod StepLemmas
pub mod LawLemmas
pub mod BlockLemmas
pub mod BlockCells
