pub mod Delays
pub mod Starts
pub mod Cores
pub mod Looking
pub mod Playing
pub mod Exploring
pub mod Lines
