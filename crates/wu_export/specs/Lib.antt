-- ---- What a reader of the contracts trusts

pub mod Exports
-- the entries as events, and what they make from nothing
pub mod Rebuilding
pub mod Exporting
-- ---- What only private functions and proofs need: how directories are found, and how a line is put together

pub mod Finding
