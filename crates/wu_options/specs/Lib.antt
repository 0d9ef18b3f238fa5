-- What a command line asks for.
pub mod CommandLines
-- For the proofs alone: the words of the parser of command lines.
pub mod Parser
