mod Candidates
mod Certain
