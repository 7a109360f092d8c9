pub mod Writing
pub mod Sizes
pub mod Parts
