mod ListLemmas
pub mod MemberLemmas
