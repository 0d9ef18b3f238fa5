-- ---- What a reader of the contracts trusts

-- what a line says, the items of a script, and what they say with their expressions read
pub mod Words
pub mod Commands
pub mod Items
pub mod Said
-- the bytes of replies
pub mod Replies
-- how the reader goes on with a source
pub mod Holding
-- ---- What only private functions and proofs need: lines and bodies in pieces

pub mod Taking
pub mod Taken
