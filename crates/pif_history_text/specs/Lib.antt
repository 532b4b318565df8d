pub mod Allowed
pub mod Deeds
pub mod Histories
pub mod Lines
pub mod Reading
pub mod Tellings
pub mod Texts
pub mod Verdicts
