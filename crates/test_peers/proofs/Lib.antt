pub mod LineLemmas
pub mod UserLemmas
