pub mod ChapLemmas
pub mod CredentialLemmas
pub mod PieceLemmas
pub mod VerdictLemmas
