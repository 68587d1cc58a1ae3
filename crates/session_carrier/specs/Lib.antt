pub mod Carriers
pub mod Route
pub mod Session
