pub mod Checking
pub mod Groups
pub mod Pushing
pub mod RoundTrip
pub mod Tagged
pub mod Views
pub mod Writing
