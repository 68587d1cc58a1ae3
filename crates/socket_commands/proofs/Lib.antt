pub mod ServeLemmas
mod RecordLemmas
