pub mod PieceLemmas
pub mod StatusLemmas
pub mod VerdictLemmas
