-- ---- What a reader of the contracts trusts

pub mod Memory
pub mod Contents
pub mod Holdings
pub mod Flushing
pub mod Units
pub mod Working
pub mod Causes
pub mod Loading
pub mod Candidates
-- ---- What only private functions and proofs need

pub mod Lists
pub mod LiveLists
pub mod StoredParts
pub mod UnitsOfParts
pub mod Addressing
pub mod Chains
pub mod LeadingBytes
pub mod OpenedParts
pub mod ViewOfParts
