pub mod Components
pub mod Sides
pub mod Laws
pub mod Places
