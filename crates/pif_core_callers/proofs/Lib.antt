pub mod FineLemmas
pub mod GoCases
pub mod HoldLemmas
pub mod OrderLemmas
