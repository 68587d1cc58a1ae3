pub mod Grammar
pub mod Reading
pub mod Records
pub mod Streams
