pub mod Candidate
pub mod Congruent
