pub mod Merging
