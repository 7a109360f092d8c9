pub mod Stepping
pub mod Replaying
