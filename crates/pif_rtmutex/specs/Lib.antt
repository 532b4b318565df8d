pub mod Maximum
pub mod Fields
pub mod Steps
pub mod Priorities
