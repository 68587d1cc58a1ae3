pub mod Messages
pub mod Reading
pub mod Rules
pub mod Step
