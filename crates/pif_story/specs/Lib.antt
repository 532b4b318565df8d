pub mod Names
pub mod Notes
pub mod Parts
pub mod Rows
