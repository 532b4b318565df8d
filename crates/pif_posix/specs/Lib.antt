pub mod Choices
pub mod Results
pub mod Shapes
pub mod Beside
pub mod Waiting
pub mod Mending
pub mod Deeds
