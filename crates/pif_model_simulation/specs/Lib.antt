pub mod Fates
pub mod Waiters
pub mod Steppable
pub mod Calls
