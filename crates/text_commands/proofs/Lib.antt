pub mod CheckLemmas
pub mod FollowingLemmas
pub mod OutputLemmas
pub mod ShowLemmas
pub mod TaskLemmas
