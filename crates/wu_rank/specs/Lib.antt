pub mod Bm25
pub mod Scores
pub mod Entries
pub mod Sweeps
pub mod Order
pub mod Choices
pub mod Pruning
