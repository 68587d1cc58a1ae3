pub mod AskingLemmas
pub mod BackLemmas
pub mod ConcludingLemmas
pub mod DeskLemmas
pub mod FinalLemmas
pub mod LateDrains
pub mod LinkHistory
pub mod PlaceLemmas
pub mod SortLemmas
pub mod SpanLemmas
pub mod StartingLemmas
pub mod StatusLemmas
mod RanLemmas
