-- ---- What a reader of the contracts trusts

-- faults, the end of a source, what a sink gains
pub mod Faults
pub mod Ends
pub mod Gains
-- what a store holds, which ranges of it were read, and what a crash leaves
pub mod Content
pub mod Ranges
pub mod Crash
-- what calls leave to a crash, composed
pub mod Surviving
-- what a call leaves of a store, in one word
pub mod Reading
-- the objects in memory
pub mod Known
pub mod Schedule
pub mod Stored
pub mod Logs
-- ---- What only private functions and proofs need: one entry of a log

pub mod LogSteps
