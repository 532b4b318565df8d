pub mod Done
pub mod Hops
