pub mod Variables
pub mod Moves
pub mod Entries
pub mod ToCome
pub mod Counted
