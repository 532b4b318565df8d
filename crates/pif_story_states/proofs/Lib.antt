pub mod ChainLemmas
pub mod FilterLemmas
pub mod PieceLemmas
pub mod ObjectLemmas
pub mod LineLemmas
pub mod StateLemmas
pub mod CoreLemmas
pub mod ListLemmas
