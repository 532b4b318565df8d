pub mod Parkings
pub mod Linked
