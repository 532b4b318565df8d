pub mod Worlds
pub mod Holding
pub mod AllHolding
pub mod Holders
pub mod Waiters
pub mod Timing
pub mod Fated
pub mod Priority
