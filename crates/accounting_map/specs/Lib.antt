pub mod Answers
pub mod Numbers
pub mod Passing
pub mod Requests
pub mod Statuses
pub mod Verdict
