-- What a session replies and how it ends.
-- ---- What a reader of the contracts trusts

-- replies, states, and what was taken, written and saved
pub mod Replies
pub mod Taking
pub mod Session
pub mod Ended
-- what its items read and save, and the course of a session by one cut of them
pub mod Permitted
pub mod Crashes
pub mod Courses
-- the line of a demonstration
pub mod Demo
-- a check of the store
pub mod Checks
-- what a session makes of an export
pub mod Rebuilt
-- ---- What only private functions and proofs need

pub mod Outcomes
pub mod Started
pub mod Kept
pub mod Rests
pub mod Raised
pub mod Strays
