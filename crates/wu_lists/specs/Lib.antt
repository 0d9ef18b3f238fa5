-- ---- What a reader of the contracts trusts

-- the blocks of a term, which of them frames need, what their bytes are
pub mod Blocks
-- which of them are kept and which are read
pub mod Keeping
pub mod Causes
pub mod Ascending
pub mod Fetching
pub mod Tallying
-- ---- What only private functions and proofs need

pub mod Gaining
pub mod Walking
pub mod Gathering
pub mod Asking
