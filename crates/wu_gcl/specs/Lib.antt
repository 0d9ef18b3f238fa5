-- ---- What a reader of the contracts trusts

-- expressions and what they mean
pub mod Regions
pub mod Extents
pub mod Terms
-- how they are written: tokens, the grammar, what a text says, what is printed
pub mod Lexical
pub mod Grammar
pub mod Reading
pub mod Printing
-- ---- What only private functions and proofs need: reading from the left, with a stack

pub mod Scanning
pub mod Pending
pub mod Views
pub mod Stacks
