pub mod Prefixed
pub mod Entries
pub mod Collected
pub mod InFrames
pub mod TextTerms
pub mod Ordered
