pub mod Layout
pub mod Check
