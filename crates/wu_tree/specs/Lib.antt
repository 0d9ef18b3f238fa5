-- ---- What a reader of the contracts trusts

-- file systems, what events make of them, and the rules that they keep
pub mod FileSystems
pub mod Steps
pub mod Rules
-- what an effect tells of the files
pub mod Effects
-- what is left of a walk
pub mod Walks
-- ---- What only private functions and proofs need: maps, ways up and down, moves of links, tests of lists

pub mod Nested
pub mod Inodes
pub mod Paths
pub mod LinkMoves
pub mod Lists
