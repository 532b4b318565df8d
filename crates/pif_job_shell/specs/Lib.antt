pub mod Stories
pub mod Talks
pub mod Lines
pub mod Sessions
