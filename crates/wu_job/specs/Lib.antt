-- ---- What a reader of the contracts trusts

-- a job, what its parts hold, what a step does
pub mod Jobs
-- which ranges a step reads, and why it answers a trouble
pub mod Steps
-- the postings of its parts
pub mod Postings
-- ---- What only private functions and proofs need

pub mod Live
pub mod Marks
pub mod Sources
pub mod Fronts
pub mod Reading
pub mod Keeping
