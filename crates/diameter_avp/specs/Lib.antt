pub mod Avps
pub mod Faults
pub mod Reading
pub mod View
pub mod Writer
