pub mod EachLemmas
pub mod MapEntries
pub mod Members
pub mod Options
pub mod Parting
pub mod Positions
pub mod Results
pub mod SortedLists
