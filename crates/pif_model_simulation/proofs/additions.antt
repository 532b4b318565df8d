pub mod Additions
pub mod ThreadAdded
pub mod MutexAdded
pub mod CondAdded
