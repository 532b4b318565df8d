pub mod Holding
pub mod Waiting
pub mod Events
