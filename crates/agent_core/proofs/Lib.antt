pub mod AnswerLemmas
pub mod ImageLemmas
pub mod LawLemmas
pub mod LinkLemmas
pub mod ListLemmas
pub mod RequestLemmas
pub mod RoomLemmas
pub mod StandingLemmas
