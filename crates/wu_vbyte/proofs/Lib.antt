pub mod BlockLemmas
mod NearLemmas
pub mod NumberLemmas
mod ShortLemmas
