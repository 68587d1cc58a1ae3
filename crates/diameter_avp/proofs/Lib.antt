pub mod CallerLemmas
pub mod FaultLemmas
pub mod GroupLemmas
pub mod ItemLemmas
pub mod TextLemmas
pub mod WriterLemmas
