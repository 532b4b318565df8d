pub mod Quiet
pub mod Resting
pub mod Parts
pub mod Later
pub mod FewUses
