pub mod FindingLemmas
pub mod MessageLemmas
pub mod OnlyLemmas
pub mod RoomLemmas
pub mod StreamLemmas
