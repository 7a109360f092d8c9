pub mod Lists
pub mod Formula
pub mod Game
pub mod Tidy
pub mod WellFormed
