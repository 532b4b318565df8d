pub mod Commands
pub mod Defaults
pub mod Options
pub mod Random
pub mod Rules
pub mod Words
