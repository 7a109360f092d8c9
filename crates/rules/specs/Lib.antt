pub mod Simplify
pub mod Eliminate
pub mod Entry
pub mod Step
pub mod Choice
pub mod Run
