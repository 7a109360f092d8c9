pub mod Candidates
pub mod Searched
