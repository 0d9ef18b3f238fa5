-- ---- What a reader of the contracts trusts

pub mod Views
-- ---- What only private functions and proofs need: a walk down, and paths put together by file

pub mod Walks
pub mod Groups
-- links and a view without their paths, and a walk in the order of paths
pub mod LinkLists
pub mod KeptViews
pub mod OrderedWalks
