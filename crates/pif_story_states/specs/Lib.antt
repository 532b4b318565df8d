pub mod States
pub mod Objects
pub mod Graphs
pub mod Stories
