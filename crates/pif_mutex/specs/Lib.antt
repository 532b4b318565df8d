pub mod Assembled
pub mod Mutexes
pub mod Outcomes
