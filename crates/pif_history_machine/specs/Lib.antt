pub mod Told
pub mod Verdicts
pub mod Overs
pub mod Wakeups
