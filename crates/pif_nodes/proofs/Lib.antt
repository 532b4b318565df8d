pub mod HolderLemmas
pub mod MoveLemmas
pub mod ReadLemmas
pub mod SeenLemmas
pub mod TiesLemmas
pub mod ViewLemmas
pub mod WriteLemmas
