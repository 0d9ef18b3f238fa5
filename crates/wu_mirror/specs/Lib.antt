-- ---- What a reader of the contracts trusts

-- what a user may search, and when it is no more than elsewhere
pub mod Searches
-- the order of a batch, from what to what it leads, and the moments between
pub mod Plans
pub mod Moments
-- what it takes that each event is accepted
pub mod Acceptance
-- what is checked of a batch alone, and what is told of it
pub mod Misfits
pub mod Faults
