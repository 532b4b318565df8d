pub mod Groups
pub mod Hearing
pub mod Sides
pub mod Judging
