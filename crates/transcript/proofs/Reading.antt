pub mod ControlLemmas
pub mod Examples
pub mod FollowLemmas
pub mod ReadingLemmas
pub mod SettingsLemmas
pub mod TakingLemmas
