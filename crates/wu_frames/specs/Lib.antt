-- ---- What a reader of the contracts trusts

pub mod UserFrames
pub mod Permissions
pub mod Links
-- ---- What only private functions and proofs need

pub mod Making
pub mod Mending
pub mod Changes
pub mod Walks
