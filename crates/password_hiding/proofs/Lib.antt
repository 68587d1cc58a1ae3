pub mod BlockLemmas
pub mod TrimLemmas
