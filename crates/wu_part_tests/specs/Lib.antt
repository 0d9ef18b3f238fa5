pub mod CheckedLists
