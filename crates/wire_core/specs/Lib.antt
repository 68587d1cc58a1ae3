pub mod Counts
pub mod Forms
pub mod Keys
pub mod Numbers
pub mod Sink
pub mod Source
pub mod Words
