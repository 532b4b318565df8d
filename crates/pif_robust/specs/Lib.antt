pub mod Links
pub mod Robust
