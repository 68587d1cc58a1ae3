pub mod Config
pub mod Keyed
