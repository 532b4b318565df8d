pub mod Indexes
pub mod Joining
pub mod Splitting
pub mod Told
