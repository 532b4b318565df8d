pub mod Rooms
pub mod StandsAfter
pub mod Looks
pub mod Turns
