pub mod PlacesLemmas
pub mod CutLemmas
pub mod LineLemmas
pub mod WordLemmas
pub mod OwnWords
pub mod LengthLemmas
