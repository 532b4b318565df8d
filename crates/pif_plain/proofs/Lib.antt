pub mod Propagation
pub mod KeptChains
pub mod RowLemmas
