pub mod Turns
pub mod Knowing
pub mod Order
pub mod Passes
