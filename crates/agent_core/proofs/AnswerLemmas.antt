pub mod AnswerSteps
pub mod Answered
pub mod AwaitedLemmas
pub mod FollowHeaders
pub mod FollowLemmas
pub mod HeardPlaces
