pub mod Hops
pub mod Counting
pub mod Ends
pub mod Walking
pub mod Chaining
pub mod OnPaths
