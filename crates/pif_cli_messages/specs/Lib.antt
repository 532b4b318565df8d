pub mod Messages
pub mod Statuses
