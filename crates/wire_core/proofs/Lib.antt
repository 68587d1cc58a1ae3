pub mod CountLaws
mod MemoryLaws
pub mod NumberLemmas
pub mod SinkLaws
pub mod SourceLaws
