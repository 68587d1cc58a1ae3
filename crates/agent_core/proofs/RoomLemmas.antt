pub mod Few
pub mod Limits
pub mod Roomy
pub mod RoomySteps
pub mod Spare
pub mod Waiters
