-- ---- What a reader of the contracts trusts

-- what is wrong in a store, and what is counted of one in which nothing is
pub mod Wrong
-- which ranges of a store are read, and in which order
pub mod Reads
-- which terms the lists of a part have at which addresses
pub mod Terms
-- the state of which a store holds an image
pub mod Imaged
-- lists that are read from a part's bytes
pub mod Indexing
-- the lists of a part side by side by address, at the places of the addresses of some ranges
pub mod Places
pub mod Numbering
-- ---- What only private functions and proofs need

-- ranges as they are searched, and lists as far as they are numbered
pub mod Placed
pub mod Numbered
-- tokens that are compared with numbers
pub mod Comparing
-- what is found of a store, piece by piece
pub mod Saved
pub mod Walking
pub mod Checking
