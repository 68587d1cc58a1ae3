pub mod AskedLemmas
pub mod HeadLemmas
pub mod ImageSizes
pub mod PushedLemmas
pub mod RequestLemmas
