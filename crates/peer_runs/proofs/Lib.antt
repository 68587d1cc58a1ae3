pub mod AskingLemmas
pub mod EndingLemmas
pub mod HomeRunLemmas
pub mod NasLemmas
pub mod NasLineLemmas
pub mod NasRunLemmas
pub mod UntilLemmas
