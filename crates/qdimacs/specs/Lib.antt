pub mod Faults
pub mod Bytes
pub mod Words
pub mod Decide
pub mod Read
pub mod Write
