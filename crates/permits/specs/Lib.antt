pub mod Calls
pub mod Places
pub mod Choices
pub mod Variables
