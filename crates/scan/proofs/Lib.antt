pub mod Spans
pub mod Tokens
pub mod Numbers
pub mod Arms
pub mod Cut
pub mod Reached
