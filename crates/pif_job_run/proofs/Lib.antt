mod NotingLemmas
pub mod HearingLemmas
pub mod NameLemmas
pub mod ShowLemmas
pub mod StoryLemmas
