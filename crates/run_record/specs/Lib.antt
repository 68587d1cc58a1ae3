pub mod Queues
pub mod Recordings
