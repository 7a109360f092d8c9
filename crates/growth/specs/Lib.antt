pub mod Weights
pub mod Expanding
