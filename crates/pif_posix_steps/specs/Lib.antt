pub mod Doing
pub mod Once
pub mod Alike
pub mod Independence
