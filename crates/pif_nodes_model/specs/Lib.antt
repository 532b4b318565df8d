pub mod Lists
pub mod Table
pub mod Order
pub mod Masks
pub mod Levels
