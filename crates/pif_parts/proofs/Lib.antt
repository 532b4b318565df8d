pub mod CallLemmas
pub mod HoldingLemmas
pub mod ToldLemmas
pub mod WatchLemmas
pub mod RestLemmas
pub mod UseLemmas
pub mod PartLemmas
