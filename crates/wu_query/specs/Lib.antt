-- ---- What a reader of the contracts trusts: the state, what a user sees of it, and the answer to her

pub mod States
pub mod View
pub mod Hits
pub mod Rankings
pub mod Answer
pub mod Asked
pub mod Reads
pub mod Records
pub mod Soundness
pub mod Searched
pub mod Causes
pub mod Permitted
-- ---- What only private functions and proofs need

pub mod Units
pub mod Near
pub mod TermLines
pub mod Finding
pub mod Exporting
