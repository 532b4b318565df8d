pub mod Ended
pub mod Dying
pub mod EndLine
