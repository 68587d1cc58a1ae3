pub mod Streams
pub mod PeerEnds
pub mod Serves
pub mod Records
