pub mod Thin
pub mod Others
pub mod Going
