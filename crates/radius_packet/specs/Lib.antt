pub mod Checks
pub mod Faults
pub mod Packet
pub mod Reasons
pub mod Seals
pub mod Views
