-- ---- What a reader of the contracts trusts

pub mod Access
-- ---- What only private functions and proofs need: the same calls within one frame, by places counted from its start

pub mod Directions
pub mod Memory
pub mod Places
pub mod Within
