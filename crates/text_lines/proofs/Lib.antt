pub mod LineExamples
pub mod LineLemmas
pub mod StreamLemmas
pub mod WordLemmas
