pub mod CommandLemmas
pub mod OptionsLemmas
pub mod RandomLemmas
pub mod RulesLemmas
pub mod WordsLemmas
