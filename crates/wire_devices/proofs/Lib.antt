mod ClockLaws
mod LinkLaws
pub mod TellingLaws
