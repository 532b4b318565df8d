pub mod Noting
pub mod Shows
