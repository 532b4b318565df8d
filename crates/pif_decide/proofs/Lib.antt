pub mod Selections
pub mod Ends
pub mod Next
