pub mod Apart
pub mod Driving
pub mod Names
pub mod Parts
pub mod Random
pub mod Words
