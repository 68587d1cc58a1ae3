pub mod DisconnectLemmas
pub mod VerdictLemmas
