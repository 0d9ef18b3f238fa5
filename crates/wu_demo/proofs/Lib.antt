pub mod LengthLemmas
pub mod TurnLemmas
