mod JoiningLemmas
mod NumberLemmas
mod SplittingLemmas
mod ToldLemmas
