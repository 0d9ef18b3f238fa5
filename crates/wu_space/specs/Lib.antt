-- ---- What a reader of the contracts trusts

pub mod Addresses
-- ---- What only private functions and proofs need: the slots in which the ranges lie by address

pub mod Slots
pub mod Rebuilding
