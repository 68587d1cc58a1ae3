pub mod Generating
pub mod Generator
