pub mod Calls
pub mod Holdings
pub mod Watching
pub mod Resting
pub mod Standing
pub mod Parts
