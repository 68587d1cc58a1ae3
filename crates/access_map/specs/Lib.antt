pub mod Credentials
pub mod Passing
pub mod Requests
pub mod Verdict
