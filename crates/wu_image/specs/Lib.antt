-- ---- What a reader of the contracts trusts

-- the root, and the checkpoint with its rules
pub mod Roots
pub mod Items
pub mod LayoutRules
pub mod Checkpoints
-- when what is kept of a text isn't what was recorded
pub mod Texts
-- what a store holds of a state, and what is broken of it
pub mod Images
pub mod Breakage
-- ---- What only private functions and proofs need: pieces that are read and written, rules as they are asked

pub mod Reading
pub mod Lists
pub mod Writing
pub mod Checks
