pub mod FaultLemmas
pub mod PushLemmas
pub mod RoundTripLemmas
pub mod WriteLemmas
