pub mod CutLemmas
pub mod CutStreams
pub mod InputLemmas
