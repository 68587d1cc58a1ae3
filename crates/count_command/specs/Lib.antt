pub mod Block
pub mod Count
pub mod Hits
pub mod Tally
