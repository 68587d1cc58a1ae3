pub mod EndLemmas
pub mod ReplayLemmas
