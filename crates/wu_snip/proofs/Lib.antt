pub mod LineLemmas
pub mod SnippetLemmas
