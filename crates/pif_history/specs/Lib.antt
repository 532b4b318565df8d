pub mod Guided
pub mod Played
pub mod Led
pub mod Counting
pub mod Spans
pub mod Turns
pub mod Certain
