pub mod Words
pub mod Handed
pub mod HandedMachine
pub mod Keeping
pub mod Making
pub mod MachineSteps
pub mod InPlace
pub mod Replaying
