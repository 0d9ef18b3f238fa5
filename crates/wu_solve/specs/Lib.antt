-- ---- What a reader of the contracts trusts

pub mod Addresses
pub mod Listing
pub mod Solving
pub mod Needed
pub mod Frames
-- ---- What only private functions and proofs need: operands by lists of addresses, operators by merging lists of extents

pub mod Operands
pub mod Prefixes
pub mod Merging
pub mod FirstExtents
pub mod Windows
pub mod Spanning
pub mod Simple
