pub mod Scan
pub mod Cut
pub mod Phases
