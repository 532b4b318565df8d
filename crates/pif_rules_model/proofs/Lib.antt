pub mod Listing
pub mod Moves
pub mod Lending
pub mod Ruling
pub mod Entries
pub mod Sets
pub mod Later
