mod FollowedLemmas
mod FrontLemmas
mod ReadingLemmas
mod TakingLemmas
mod TellingLemmas
mod TextLemmas
