pub mod Passing
pub mod Requests
