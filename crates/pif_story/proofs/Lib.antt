mod FlawLemmas
pub mod NameLemmas
pub mod NoteLemmas
mod PartLemmas
mod WritingLemmas
