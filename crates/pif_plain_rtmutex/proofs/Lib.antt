pub mod StateFieldsLemmas
pub mod TopLemmas
pub mod BehindLemmas
pub mod PriorityLemmas
