pub mod Reads
pub mod Stops
pub mod Streams
pub mod Views
pub mod Words
