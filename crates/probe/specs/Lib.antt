pub mod Taken
pub mod Results
