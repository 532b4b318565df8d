mod AllowedLemmas
mod LineTexts
mod PlaceLemmas
mod ProcessLemmas
mod SplitLemmas
mod TellingLemmas
