pub mod KernelLeaves
pub mod ListChanges
pub mod Counts
pub mod Steps
pub mod SoundTables
pub mod Stepping
