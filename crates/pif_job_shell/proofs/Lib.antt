pub mod StoryLemmas
pub mod TalkLemmas
pub mod LineLemmas
pub mod RunLemmas
pub mod SessionLemmas
