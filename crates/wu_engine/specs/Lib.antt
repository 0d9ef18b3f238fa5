-- ---- What a reader of the contracts trusts: what an event makes of a state, and the engine

pub mod States
pub mod Stands
pub mod Reports
pub mod Causes
pub mod Reindexing
pub mod Opening
pub mod Crashes
pub mod Saving
pub mod SavedStores
pub mod Naming
pub mod Permitted
pub mod Going
pub mod Puts
pub mod Calls
pub mod Changing
pub mod Answering
pub mod Listing
pub mod Renewing
pub mod Earlier
pub mod Saved
pub mod Begun
-- ---- What only private functions and proofs need

pub mod Indexing
pub mod Opened
pub mod Reindexed
