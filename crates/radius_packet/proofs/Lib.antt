pub mod Drafts
pub mod FaultLemmas
pub mod Packets
pub mod Reading
pub mod SealTests
pub mod Signing
