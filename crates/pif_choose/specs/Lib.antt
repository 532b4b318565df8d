pub mod Trees
pub mod Orders
pub mod Runs
pub mod Searches
pub mod Choices
pub mod Standstills
