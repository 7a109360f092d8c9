pub mod Explaining
pub mod Values
