pub mod Desks
pub mod Logs
pub mod Rooms
pub mod Settling
pub mod Sleeping
