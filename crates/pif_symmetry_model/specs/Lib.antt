pub mod Renaming
pub mod Swaps
pub mod Lending
pub mod Symmetry
pub mod Outcomes
pub mod Conditions
pub mod Representatives
