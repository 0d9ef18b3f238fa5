pub mod Words
pub mod Tokens
pub mod Places
pub mod Pieces
