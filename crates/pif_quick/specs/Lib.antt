pub mod Turns
pub mod Rule
pub mod Places
pub mod Quick
pub mod Lent
pub mod Waits
