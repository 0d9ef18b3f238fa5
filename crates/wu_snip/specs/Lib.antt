pub mod Snippets
pub mod Walks
