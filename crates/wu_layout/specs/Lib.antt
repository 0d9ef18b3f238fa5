pub mod Postings
pub mod Layouts
pub mod Invariants
pub mod Steps
pub mod Changes
pub mod Ascending
