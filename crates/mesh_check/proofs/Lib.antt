mod Counts
mod EdgeCounts
mod Fronts
mod Pairs
mod Verdicts
