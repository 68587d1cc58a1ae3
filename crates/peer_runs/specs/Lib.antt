pub mod Asking
pub mod HomeRuns
pub mod NasRuns
pub mod Until
