pub mod Ranges
pub mod SortedOnce
