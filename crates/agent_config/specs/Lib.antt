pub mod Settings
pub mod Twice
pub mod Values
