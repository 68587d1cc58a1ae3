pub mod Answers
pub mod Asked
pub mod Attempts
pub mod Requests
