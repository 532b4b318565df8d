pub mod Answering
pub mod TakingSound
