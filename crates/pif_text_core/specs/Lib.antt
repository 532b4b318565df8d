pub mod Changes
pub mod Pages
pub mod Texts
pub mod Waiting
