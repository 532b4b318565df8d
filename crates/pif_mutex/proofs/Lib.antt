pub mod Assembly
pub mod Exchanges
pub mod EndedCounts
pub mod Locking
