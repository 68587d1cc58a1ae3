pub mod Desks
pub mod Runs
pub mod Server
pub mod Spans
pub mod Starting
pub mod Ran
