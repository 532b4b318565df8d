mod ChoiceLemmas
mod ExploringLemmas
mod PlayingLemmas
mod Parts
pub mod Held
