pub mod CarrierLemmas
pub mod Sessions
