pub mod Due
pub mod Timers
pub mod Expired
pub mod Expiring
