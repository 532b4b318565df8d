mod FollowingLemmas
mod JudgedLemmas
