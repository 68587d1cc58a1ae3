pub mod Disconnects
pub mod Verdicts
