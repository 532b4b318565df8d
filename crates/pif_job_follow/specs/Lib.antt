pub mod Fronts
pub mod Followed
pub mod Telling
pub mod Following
