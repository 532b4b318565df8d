mod GroupLemmas
mod HearingLemmas
mod JudgingLemmas
