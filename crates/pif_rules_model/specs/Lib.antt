pub mod Sets
pub mod Lending
pub mod Rules
pub mod Ruled
pub mod Undefined
