pub mod Records
pub mod Calls
