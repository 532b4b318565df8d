pub mod Bounds
pub mod Firsts
pub mod Afters
pub mod Visits
pub mod Ends
pub mod Choosing
pub mod Chains
